use Rattle.std.proofs.Common.{◌++◌, append-nil, refl, sym, ap, ◌∙◌}
use Rattle.deb_relation.specs.Environments.{environment_of}
use Rattle.deb_relation.specs.Texts.{group_text}
use Rattle.deb_unmet.specs.Paragraphs.{heading_in}
use Rattle.deb_unmet.specs.Scopes.{scope_of}
use Rattle.deb_unmet.specs.Troubles.{trouble_for, trouble_line}
use Rattle.deb_unmet.proofs.OldIndexes.{none-for, none-in}
use Rattle.deb_unmet.proofs.group.append_group.Goals as goal

pub returns-then-is_plainly_met : goal.returns-then-is_plainly_met
returns-then-is_plainly_met c = λ g regular is.
    let tried = c.args.tried.now in
    let none = none-in (scope_of c.args.question.now) (environment_of c.args.question.now.environment.now) g _ refl (c.is_plainly_met.ensures g regular is c.if-is_plainly_met.true) in
    sym (append-nil c.args.out.now.items)
    ∙ ap (λ why. c.args.out.now.items ++ trouble_line why (heading_in tried.paragraph.now) c.args.field.now (group_text g)) (sym (none-for tried.applies) ∙ ap (trouble_for tried.applies) none)

pub returns : goal.returns
returns c = λ g regular is. rw (c.trouble_for-why.ensures, c.in_ok-why.ensures g regular is, is) at c.append_line.ensures

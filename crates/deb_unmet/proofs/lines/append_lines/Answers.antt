use Rattle.std.proofs.Common.{◌≡◌, ◌++◌, OnOk, subst}
use Rattle.deb_relation.specs.Environments.{environment_of}
use Rattle.deb_unmet.specs.Scopes.{scope_of}
use Rattle.deb_unmet.proofs.ParagraphLines.{lines-of_texts}
use Rattle.deb_unmet.proofs.lines.append_lines.Goals as goal

pub returns : goal.returns
returns c = λ values has.
    let paragraph = c.args.paragraph.now in
    let environment = environment_of c.args.question.now.environment.now in
    subst (λ lines. OnOk c.append_tried.result (c.append_tried.new.out.items ≡ c.args.out.now.items ++ lines))
    (lines-of_texts paragraph values environment (scope_of c.args.question.now) c.is_tried.result has (c.is_tried.ensures values has)) (c.append_tried.ensures values has)

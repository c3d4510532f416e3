use Rattle.std.proofs.Common.{sym, ◌∙◌}
use Rattle.deb_base.specs.Names.{folded}
use Rattle.deb_select.proofs.Asked.{none_asked}
use Rattle.deb_select.proofs.selection.Selection.tests_of.Goals as goal

pub returns-then-not-may_ask_for : goal.returns-then-not-may_ask_for
returns-then-not-may_ask_for c = λ doc meaning has.
    let field = c.args.field.now in
    sym (has.tests (folded field.name.now) ∙ none_asked c.args.self.now.rows field.name.now c.row.result (c.row.ensures ∙ field.named) (sym c.may_ask_for.ensures ∙ c.if-not-may_ask_for.true) meaning.conditions has.rows)

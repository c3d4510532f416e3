use Rattle.std.proofs.Common.{sym, ap, ◌∙◌}
use Rattle.deb_select.specs.Conditions.{contains_text}
use Rattle.deb_select.specs.Kept.{test_shown}
use Rattle.deb_select.proofs.NamesInTexts.{not-is, relation_lacks}
use Rattle.deb_select.proofs.test.Test.lacks_name.Goals as goal

pub returns-in-Names : goal.returns-in-Names
returns-in-Names c = λ lacks sort value spells.
    relation_lacks c.in-Names.name.items (test_shown c.args.self.now) c.args.body.now sort value (ap test_shown c.in-Names.is)
    (ap (λ name. contains_text name c.args.body.now) (sym c.as_slice.ensures.value) ∙ sym c.contains.ensures ∙ not-is c.contains.result lacks) spells

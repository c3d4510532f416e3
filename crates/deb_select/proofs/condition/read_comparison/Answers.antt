use Rattle.std.proofs.Common.{◌∙◌, sym, ap}
use Rattle.deb_field.specs.ValueMeanings.{value_meaning}
use Rattle.deb_select.specs.Conditions.{Compares}
use Rattle.deb_select.specs.Kept.{ComparesKey}
use Rattle.deb_select.proofs.condition.read_comparison.Goals as goal

pub returns-in-Ok-key_of-clause-ok : goal.returns-in-Ok-key_of-clause-ok
returns-in-Ok-key_of-clause-ok c = λ operator. record {
  meaning = Compares c.args.comparison (value_meaning c.in-Ok.value);
  spells = (operator, sym c.may_compare.ensures ∙ c.if-not-may_compare.false, sym c.is_empty.ensures ∙ c.if-is_empty.false, c.in-Ok.ensures.ok);
  shown = ap (ComparesKey c.args.comparison) c.in-Ok-key_of.ensures;
}

use Rattle.std.proofs.Common.{◌∙◌, refl, sym, ap}
use Rattle.deb_select.specs.Conditions.{ContainsText}
use Rattle.deb_select.specs.Kept.{ContainsBytes}
use Rattle.deb_select.proofs.condition.read_part.Goals as goal

pub returns-in-Ok-clause-ok : goal.returns-in-Ok-clause-ok
returns-in-Ok-clause-ok c = λ kind operator. record {
  meaning = ContainsText c.args.parts.now.value.now;
  spells = (operator, sym c.is_empty.ensures ∙ c.if-is_empty.false, refl);
  shown = ap ContainsBytes c.in-Ok.ensures.items;
}

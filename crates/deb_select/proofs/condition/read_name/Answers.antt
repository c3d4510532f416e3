use Rattle.std.proofs.Common.{◌∙◌, refl, sym, ap}
use Rattle.deb_select.specs.Conditions.{NamesOne}
use Rattle.deb_select.specs.Kept.{NamesBytes}
use Rattle.deb_select.proofs.condition.read_name.Goals as goal

pub returns-in-Ok-clause-ok : goal.returns-in-Ok-clause-ok
returns-in-Ok-clause-ok c = λ operator. record {
  meaning = NamesOne c.args.parts.now.value.now;
  spells = (operator, sym c.has_names.ensures ∙ c.if-not-has_names.false, sym c.is_empty.ensures ∙ c.if-is_empty.false, sym c.is_name_in.ensures ∙ c.if-not-is_name_in.false, refl);
  shown = ap NamesBytes c.in-Ok.ensures.items;
}

use Rattle.deb_field.specs.CanonLaws.{one_text}
use Rattle.deb_field.specs.ValueLaws.{kind_law, value_law}
use Rattle.deb_field.specs.Values.{ValueMeaning, SpellsKind, SpellsValue, value_text}
use Rattle.deb_field.proofs.laws.canonical_text_tells_values.Goals as goal

pub returns : goal.returns
returns c = record {
  of_fields = λ doc name. one_text ValueMeaning (SpellsValue doc name) value_text (value_law doc name);
  of_kinds = λ kind. one_text ValueMeaning (SpellsKind kind) value_text (kind_law kind);
}

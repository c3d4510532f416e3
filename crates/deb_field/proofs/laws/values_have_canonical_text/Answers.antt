use Rattle.deb_field.specs.ValueLaws.{kind_law, value_law}
use Rattle.deb_field.proofs.laws.values_have_canonical_text.Goals as goal

pub returns : goal.returns
returns c = record { of_fields = value_law; of_kinds = kind_law }

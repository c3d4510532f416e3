use Rattle.deb_field.specs.ValueLaws.{kind_refusals, value_refusals}
use Rattle.deb_field.proofs.laws.bodies_are_spelled_or_refused.Goals as goal

pub returns : goal.returns
returns c = record { of_fields = value_refusals; of_kinds = kind_refusals }

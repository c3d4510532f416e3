use Rattle.deb_field.specs.ValueLaws.{kind_goes_by_name, kind_of_canonical_name}
use Rattle.deb_field.proofs.laws.kinds_go_by_names.Goals as goal

pub returns : goal.returns
returns c = record { same = kind_goes_by_name; canonical = kind_of_canonical_name }

use Rattle.deb_field.specs.ValueLaws.{fields_of_any_are_texts}
use Rattle.deb_field.proofs.laws.fields_of_any_are_texts.Goals as goal

pub returns : goal.returns
returns c = fields_of_any_are_texts

use Rattle.deb_field.specs.ValueCodes.{refusals_are_of_values as the_law}
use Rattle.deb_field.proofs.laws.refusals_are_of_values.Goals as goal

pub returns : goal.returns
returns c = the_law

use Rattle.std.proofs.Common.{refl}
use Rattle.deb_health.proofs.laws.begins_as_unmet.Goals as goal

pub returns : goal.returns
returns c = λ members strength environment packages number fields values. (_, refl)

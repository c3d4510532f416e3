use Rattle.std.proofs.Common.{◌≡◌, IsTrue, length}
use Rattle.deb_version.specs.Parts.{value_of}
use Rattle.deb_field.specs.Numbers.{are_digits}
use Rattle.deb_field.proofs.number.without_leading_zeros.Given as goal

abbrev pub invariant-loop-rest : goal.invariant-loop-rest
invariant-loop-rest l = record { digits : IsTrue (are_digits l.rest); value : value_of l.rest ≡ value_of l.digits }

abbrev pub decreases-loop-rest : goal.decreases-loop-rest
decreases-loop-rest l = length l.rest

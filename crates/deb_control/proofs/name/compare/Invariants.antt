use Rattle.deb_control.proofs.Common.{◌≡◌, ◌==◌, length, capitalised, canonical_name, byte_order}
use Rattle.deb_control.proofs.name.compare.Given as goal

abbrev pub invariant-loop-rest : goal.invariant-loop-rest
invariant-loop-rest l = byte_order (capitalised (l.before == 45) l.rest) (capitalised (l.before == 45) l.rest_beside) ≡ byte_order (canonical_name l.name) (canonical_name l.other)

abbrev pub decreases-loop-rest : goal.decreases-loop-rest
decreases-loop-rest l = length l.rest

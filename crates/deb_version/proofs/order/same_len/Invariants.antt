-- The bytes before the offset are the same.
use Rattle.deb_version.proofs.Common.{◌≡◌, take}
use Rattle.deb_version.proofs.order.same_len.Given as goal

abbrev pub invariant-loop-place : goal.invariant-loop-place
invariant-loop-place l = take l.place l.a ≡ take l.place l.b

-- The own versions of the packages so far were appended.
use Rattle.std.proofs.Common.{◌≡◌, ◌-◌, ◌++◌, map, take}
use Rattle.deb_index.proofs.offer.append_own.Given as goal

abbrev pub invariant-loop-number : goal.invariant-loop-number
invariant-loop-number l = l.offers.items ≡ l.initial.offers.items ++ map (λ k. k - 1) (take l.number-index l.numbers)

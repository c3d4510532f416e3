use Rattle.std.proofs.Common.{◌≡◌, map, take}
use Rattle.deb_diff.specs.Places.{placing_in, placing_of_ranked}
use Rattle.deb_diff.proofs.ranks.entries.Given as goal

abbrev pub invariant-loop-kept : goal.invariant-loop-kept
invariant-loop-kept l = map placing_of_ranked l.entries.items ≡ map (λ k. placing_in k.now) (take l.kept-index l.left)

use Rattle.std.proofs.Common.{◌≡◌, map, take}
use Rattle.deb_diff.specs.Lefts.{release_in}
use Rattle.deb_diff.proofs.left.releases.Given as goal

abbrev pub invariant-loop-paragraph : goal.invariant-loop-paragraph
invariant-loop-paragraph l = map (λ k. k.items) l.keys.items ≡ map (λ k. release_in k.now) (take l.paragraph-index l.kept)

use Rattle.std.proofs.Common.{◌≡◌, map, take}
use Rattle.deb_diff.specs.Places.{place_among, placing_of_ranked}
use Rattle.deb_diff.proofs.ranks.places_among.Given as goal

abbrev pub invariant-loop-paragraph : goal.invariant-loop-paragraph
invariant-loop-paragraph l = map (λ k. k.items) l.keys.items ≡ map (λ k. place_among (map placing_of_ranked l.sorted) k.now) (take l.paragraph-index l.kept)

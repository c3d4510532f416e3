-- One paragraph more.
use Rattle.std.proofs.Common.{◌≡◌, ◌++◌, ◌∷◌, [], map}
use Rattle.deb_diff.specs.Places.{place_among, placing_of_ranked}
use Rattle.deb_diff.proofs.Placed.{mapped-more}
use Rattle.deb_diff.proofs.ranks.places_among.Goals as goal

pub loop-paragraph-preserved : goal.loop-paragraph-preserved
loop-paragraph-preserved c =
    let more : c.push.new.self.items ≡ c.loop-paragraph.keys.items ++ c.in_ok-place.field-0 ∷ [] = c.in_ok-push.ensures.items in
    mapped-more (λ k. k.items) (λ k. place_among (map placing_of_ranked c.args.sorted.now) k.now) c.loop-paragraph.keys.items c.push.new.self.items c.in_ok-place.field-0 c.args.kept.now c.loop-paragraph.paragraph-index c.paragraph-item.result
    c.loop-paragraph-test.true c.paragraph-item.is more c.loop-paragraph.invariant c.in_ok-place.ensures

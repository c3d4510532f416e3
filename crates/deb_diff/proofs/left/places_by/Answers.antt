-- The places among those that wait.
use Rattle.std.proofs.Common.{◌≡◌, map, ap, ◌∙◌, rules}
use Rattle.deb_diff.specs.Places.{place_among, placing_in}
use Rattle.deb_diff.proofs.Boths.{if_ok}
use Rattle.deb_diff.proofs.Placed.{lent_placings}
use Rattle.deb_diff.proofs.left.places_by.Goals as goal

pub returns : goal.returns
returns c =
    let lent : c.deref.result.now ≡ c.in_ok-left.left.items = search rules in
    let left = ap (map (λ k. placing_in k.now)) (lent ∙ c.in_ok-left.ensures) ∙ lent_placings 0 c.args.kept.now c.args.waits.now in
    if_ok (λ keys is. is ∙ ap (λ p. map (λ k. place_among p k.now) c.args.kept.now) left) c.places.result c.places.ensures

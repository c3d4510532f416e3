-- The order of those that are left doesn't matter.
use Rattle.std.proofs.Common.{◌≡◌, map, ap, ◌∙◌, rules}
use Rattle.deb_diff.specs.Places.{place_among, placing_in, placing_of_ranked}
use Rattle.deb_diff.proofs.Boths.{if_ok}
use Rattle.deb_diff.proofs.Placed.{places_permuted}
use Rattle.deb_diff.proofs.ranks.places.Goals as goal

pub returns : goal.returns
returns c =
    let entries : c.deref.result.now ≡ c.in_ok-sorted.sorted.items = search rules in
    let kept = c.args.kept.now in
    if_ok (λ keys is. is ∙ ap (λ l. map (λ k. place_among (map placing_of_ranked l) k.now) kept) entries
    ∙ places_permuted (map (λ l. placing_in l.now) c.args.left.now) (map placing_of_ranked c.in_ok-sorted.sorted.items) c.in_ok-sorted.ensures.permutes kept) c.places_among.result c.places_among.ensures

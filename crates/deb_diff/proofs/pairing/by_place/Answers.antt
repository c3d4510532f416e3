-- What became of them is by the items' places.
use Rattle.std.proofs.Common.{◌≡◌, length, map, sym, ap, ◌∙◌, subst, rules}
use Rattle.std.proofs.lemmas.List.{length-map}
use Rattle.std.specs.Option.{is_none}
use Rattle.deb_diff.specs.Differences.{place}
use Rattle.deb_diff.specs.Kepts.{IsKept}
use Rattle.deb_diff.specs.Places.{place_in}
use Rattle.deb_diff.specs.Pools.{IsPoolOf, pick, waiting_in}
use Rattle.deb_diff.specs.Walks.{all_of, left_after_all}
use Rattle.deb_diff.proofs.Assembled.{pick-whole}
use Rattle.deb_diff.proofs.Released.{places_are}
use Rattle.deb_diff.proofs.pairing.by_place.Goals as goal

pub returns-clause-pairs : goal.returns-clause-pairs
returns-clause-pairs c = λ items others are are_new.
    let new_lent : c.deref-3.result.now ≡ c.in_ok-keys.keys.items = search rules in
    let new_made : c.deref-2.result.now ≡ c.in_ok-places_of_new.places_of_new.items = search rules in
    let new_waits : c.deref.result.now ≡ c.args.waits.items = search rules in
    let old_lent : c.deref-6.result.now ≡ c.in_ok-wanted.wanted.items = search rules in
    let old_made : c.deref-5.result.now ≡ c.in_ok-places_of_old.places_of_old.items = search rules in
    let old_waits : c.deref-4.result.now ≡ c.in_ok-waits_of_old.waits_of_old.items = search rules in
    let old_left = map (λ k. k.now) c.args.old.now in
    let new_left = map (λ k. k.now) c.args.new.now in
    let own = place (waiting_in items (map is_none c.args.found.now)) in
    let new_place = place (waiting_in others c.args.waits.items) in
    let keys = ap (map (λ k. k.now)) new_lent ∙ c.in_ok-keys.ensures ∙ ap (map (λ k. k.items)) new_made ∙ c.in_ok-places_of_new.ensures ∙ ap (λ w. map (λ k. place_in (waiting_in new_left w) k.now) c.args.new.now) new_waits
    ∙ places_are (waiting_in new_left c.args.waits.items) (waiting_in others c.args.waits.items) c.args.new.now others (pick-whole IsKept 0 new_left others c.args.waits.items are_new) are_new in
    let wanted = ap (map (λ k. k.now)) old_lent ∙ c.in_ok-wanted.ensures ∙ ap (map (λ k. k.items)) old_made ∙ c.in_ok-places_of_old.ensures ∙ ap (λ w. map (λ k. place_in (waiting_in old_left w) k.now) c.args.old.now) (old_waits ∙ c.in_ok-waits_of_old.ensures)
    ∙ places_are (waiting_in old_left (map is_none c.args.found.now)) (waiting_in items (map is_none c.args.found.now)) c.args.old.now items (pick-whole IsKept 0 old_left items (map is_none c.args.found.now) are) are in
    let pool = subst (λ k. IsPoolOf k c.in_ok-pool.pool) keys c.in_ok-pool.ensures.pool in
    let becomes = c.in_ok-became.ensures.becomes others new_place pool in
    let start = ap (pick 0 others) c.in_ok-pool.ensures.waits in
    record {
      became = becomes.became ∙ ap (λ k. all_of new_place c.args.found.now k (pick 0 others c.in_ok-pool.pool.waits.items)) wanted ∙ ap (all_of new_place c.args.found.now (map own items)) start;
      left = ap (pick 0 others) c.into_waits-waits.ensures ∙ becomes.left ∙ ap (λ k. left_after_all new_place c.args.found.now k (pick 0 others c.in_ok-pool.pool.waits.items)) wanted ∙ ap (left_after_all new_place c.args.found.now (map own items)) start;
    }

pub all_became-requires : goal.all_became-requires
all_became-requires c =
    let old_lent : c.deref-6.result.now ≡ c.in_ok-wanted.wanted.items = search rules in
    let old_made : c.deref-5.result.now ≡ c.in_ok-places_of_old.places_of_old.items = search rules in
    ap length old_lent ∙ sym (length-map c.in_ok-wanted.wanted.items (λ k. k.now)) ∙ ap length c.in_ok-wanted.ensures ∙ length-map c.deref-5.result.now (λ k. k.items) ∙ ap length old_made
    ∙ sym (length-map c.in_ok-places_of_old.places_of_old.items (λ k. k.items)) ∙ ap length c.in_ok-places_of_old.ensures ∙ length-map c.args.old.now _ ∙ sym c.requires.found

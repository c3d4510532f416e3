-- The partners are those of the items' releases.
use Rattle.std.proofs.Common.{◌≡◌, length, map, sym, ap, ◌∙◌, subst, rules}
use Rattle.std.proofs.lemmas.List.{length-map}
use Rattle.deb_diff.specs.Items.{release}
use Rattle.deb_diff.specs.Lefts.{release_in}
use Rattle.deb_diff.specs.Partners.{after_keys, partners_of}
use Rattle.deb_diff.specs.Pools.{IsPoolOf, pick}
use Rattle.deb_diff.proofs.Boths.{length-kept}
use Rattle.deb_diff.proofs.Released.{releases_are}
use Rattle.deb_diff.proofs.pairing.by_release.Goals as goal

pub returns-clause-pairs : goal.returns-clause-pairs
returns-clause-pairs c = λ items others are are_new.
    let new_lent : c.deref-2.result.now ≡ c.in_ok-keys.keys.items = search rules in
    let new_made : c.deref.result.now ≡ c.in_ok-releases_of_new.releases_of_new.items = search rules in
    let old_lent : c.deref-4.result.now ≡ c.in_ok-wanted.wanted.items = search rules in
    let old_made : c.deref-3.result.now ≡ c.in_ok-releases_of_old.releases_of_old.items = search rules in
    let keys = ap (map (λ k. k.now)) new_lent ∙ c.in_ok-keys.ensures ∙ ap (map (λ k. k.items)) new_made ∙ c.in_ok-releases_of_new.ensures ∙ releases_are c.args.new.now others are_new in
    let wanted = ap (map (λ k. k.now)) old_lent ∙ c.in_ok-wanted.ensures ∙ ap (map (λ k. k.items)) old_made ∙ c.in_ok-releases_of_old.ensures ∙ releases_are c.args.old.now items are in
    let pool = subst (λ k. IsPoolOf k c.in_ok-pool.pool) keys c.in_ok-pool.ensures.pool in
    let pairs = c.in_ok-found.ensures.pairs others release pool in
    let start = ap (pick 0 others) c.in_ok-pool.ensures.waits in
    record {
      flags = c.in_ok-waits.waits.items;
      length_is = c.in_ok-waits.ensures.count ∙ sym (length-map c.args.new.now (λ k. k.now)) ∙ length-kept (map (λ k. k.now) c.args.new.now) others are_new;
      all = c.in_ok-waits.ensures.all;
      found = pairs.partners ∙ ap (λ k. partners_of release k (pick 0 others c.in_ok-pool.pool.waits.items)) wanted ∙ ap (partners_of release (map release items)) start;
      left = ap (pick 0 others) c.into_waits-waits.ensures ∙ pairs.left ∙ ap (λ k. after_keys release k (pick 0 others c.in_ok-pool.pool.waits.items)) wanted ∙ ap (after_keys release (map release items)) start;
    }

pub returns-clause-found : goal.returns-clause-found
returns-clause-found c =
    let old_lent : c.deref-4.result.now ≡ c.in_ok-wanted.wanted.items = search rules in
    let old_made : c.deref-3.result.now ≡ c.in_ok-releases_of_old.releases_of_old.items = search rules in
    c.in_ok-found.ensures.found ∙ ap length old_lent ∙ sym (length-map c.in_ok-wanted.wanted.items (λ k. k.now)) ∙ ap length c.in_ok-wanted.ensures ∙ length-map c.deref-3.result.now (λ k. k.items) ∙ ap length old_made
    ∙ sym (length-map c.in_ok-releases_of_old.releases_of_old.items (λ k. k.items)) ∙ ap length c.in_ok-releases_of_old.ensures ∙ length-map c.args.old.now (λ k. release_in k.now)

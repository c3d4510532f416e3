-- The fates of old paragraphs, and those that were removed.
use Rattle.std.proofs.Common.{◌≡◌, ℕ, cond, List, [], ◌∷◌, map, Option, Some, None, is_some, refl, ap, ◌∙◌}
use Rattle.std.specs.List.{filter}
use Rattle.deb_diff.specs.Differences.{difference, difference_of_others, fate_of, fates, is_removed, place, removed}
use Rattle.deb_diff.specs.Items.{Item, release, whole}
use Rattle.deb_diff.specs.Pairing.{all_but, earliest, without, without_keys}
use Rattle.deb_diff.proofs.Pairs.{unpaired, unpaired-left, unpaired_by, unpaired_by-left}

-- those that were removed found none by either key
removed-unpaired : (own key : Item → List ℕ) (xs same near : List Item) → map (λ fate. fate.0) (filter is_removed (fates own key xs same near)) ≡ unpaired_by own key (unpaired release xs same) near
removed-unpaired own key [] same near = refl
removed-unpaired own key (x ∷ xs) same near =
    go (earliest release (release x) same) (earliest key (own x) near) refl (removed-unpaired own key xs (all_but release (release x) same))
  where
    others : List Item
    others = all_but release (release x) same

    go : (p q : Option Item) → earliest key (own x) near ≡ q → ((near : List Item) → map (λ fate. fate.0) (filter is_removed (fates own key xs others near)) ≡ unpaired_by own key (unpaired release xs others) near)
        → map (λ fate. fate.0) (filter is_removed ((x, fate_of p q) ∷ fates own key xs others (cond (is_some p) near (all_but key (own x) near)))) ≡ unpaired_by own key (cond (is_some p) (unpaired release xs others) (x ∷ unpaired release xs others)) near
    go (Some y) q is h = h near
    go None (Some y) is h = rw is (h (all_but key (own x) near))
    go None None is h = rw is (ap (λ l. x ∷ l) (h (all_but key (own x) near)))

removed-others : (old new : List Item) → removed (difference_of_others old new) ≡ (difference_of_others new old).added
removed-others old new =
    let left = without release old new in
    let left_new = without release new old in
    removed-unpaired (place left) (place left_new) old new left_new
    ∙ unpaired_by-left (place left) (place left_new) (unpaired release old new) left_new
    ∙ ap (λ l. without_keys (place left) l (map (place left_new) left_new)) (unpaired-left release old new)

-- what was removed is what is added the other way round
pub removed-added : (old new : List Item) → removed (difference old new) ≡ (difference new old).added
removed-added old new = removed-others (without whole old new) (without whole new old)

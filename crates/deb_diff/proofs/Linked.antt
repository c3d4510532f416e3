-- What became of old paragraphs, by numbers, is their fates, and what is left was added.
use Rattle.std.proofs.Common.{◌≡◌, ℕ, ◌+◌, Bool, true, false, cond, List, [], ◌∷◌, map, Option, Some, None, is_some, refl, sym, ap, ◌∙◌, subst}
use Rattle.std.specs.List.{AllByRecursion}
use Rattle.std.specs.Option.{is_none, option_map}
use Rattle.std.specs.Str.{bytes_eq}
use Rattle.deb_control.specs.Pairs.{Pairwise}
use Rattle.deb_diff.specs.Differences.{fate_of, fates}
use Rattle.deb_diff.specs.Fates.{AreFated, IsAt, IsFated, IsWhole}
use Rattle.deb_diff.specs.Items.{Item, release}
use Rattle.deb_diff.specs.Pairing.{all_but, earliest, without, without_keys}
use Rattle.deb_diff.specs.Partners.{after_keys, partners_of}
use Rattle.deb_diff.specs.Pools.{pick}
use Rattle.deb_diff.specs.Walks.{all_of, became_of, left_after_all}
use Rattle.deb_diff.specs.declared.kept.Kept.{Kept}
use Rattle.deb_diff.proofs.Pairs.{unpaired}
use Rattle.deb_diff.proofs.Picked.{all_but-map, earliest-map}

-- the paragraphs of a pool are kept under their numbers
abbrev pub AllAt : List Kept → List (ℕ × Item) → Type 0
AllAt new left = AllByRecursion (λ e. IsAt new e.0 e.1) left

at_all_but : (new : List Kept) (key : Item → List ℕ) (wanted : List ℕ) (left : List (ℕ × Item)) → AllAt new left → AllAt new (all_but (λ e. key e.1) wanted left)
at_all_but new key wanted [] all = tt
at_all_but new key wanted (e ∷ left) all = go (bytes_eq (key e.1) wanted) (at_all_but new key wanted left all.1)
  where
    go : (b : Bool) → AllAt new (all_but (λ e. key e.1) wanted left) → AllAt new (cond b left (e ∷ all_but (λ e. key e.1) wanted left))
    go true h = all.1
    go false h = (all.0, h)

at_earliest : (new : List Kept) (key : Item → List ℕ) (wanted : List ℕ) (left : List (ℕ × Item)) (e : ℕ × Item) → AllAt new left → earliest (λ e. key e.1) wanted left ≡ Some e → IsAt new e.0 e.1
at_earliest new key wanted [] e all is = cc is
at_earliest new key wanted (first ∷ left) e all is = go (bytes_eq (key first.1) wanted) is (at_earliest new key wanted left e all.1)
  where
    go : (b : Bool) → cond b (Some first) (earliest (λ e. key e.1) wanted left) ≡ Some e → (earliest (λ e. key e.1) wanted left ≡ Some e → IsAt new e.0 e.1) → IsAt new e.0 e.1
    go true is h =
        let one : first ≡ e = cc is in
        subst (λ e. IsAt new e.0 e.1) one all.0
    go false is h = h is

pub fated : (own place : Item → List ℕ) (new kept : List Kept) (items : List Item) (same near : List (ℕ × Item)) → Pairwise IsWhole kept items → AllAt new same → AllAt new near
    → AreFated kept (all_of place (partners_of release (map release items) same) (map own items) near) new (fates own place items (map (λ e. e.1) same) (map (λ e. e.1) near))
fated own place new [] [] same near are at at_near = tt
fated own place new [] (x ∷ xs) same near are at at_near = absurd are
fated own place new (k ∷ ks) [] same near are at at_near = absurd are
fated own place new (k ∷ ks) (x ∷ xs) same near are at at_near =
    rw (earliest-map (λ e. e.1) release (release x) same, all_but-map (λ e. e.1) release (release x) same, earliest-map (λ e. e.1) place (own x) near, all_but-map (λ e. e.1) place (own x) near)
    (go (earliest (λ e. release e.1) (release x) same) (earliest (λ e. place e.1) (own x) near) refl refl
    (λ near at_near. fated own place new ks xs others near are.1 (at_all_but new release (release x) same at) at_near))
  where
    others : List (ℕ × Item)
    others = all_but (λ e. release e.1) (release x) same

    further : List (ℕ × Item)
    further = all_but (λ e. place e.1) (own x) near

    go : (p q : Option (ℕ × Item)) → earliest (λ e. release e.1) (release x) same ≡ p → earliest (λ e. place e.1) (own x) near ≡ q
        → ((near : List (ℕ × Item)) → AllAt new near → AreFated ks (all_of place (partners_of release (map release xs) others) (map own xs) near) new (fates own place xs (map (λ e. e.1) others) (map (λ e. e.1) near)))
        → IsFated k (became_of (option_map (λ e. e.0) p) (option_map (λ e. e.0) q)) new (x, fate_of (option_map (λ e. e.1) p) (option_map (λ e. e.1) q))
        × AreFated ks (all_of place (partners_of release (map release xs) others) (map own xs) (cond (is_some (option_map (λ (e : ℕ × Item). e.0) p)) near further)) new (fates own place xs (map (λ e. e.1) others) (cond (is_some (option_map (λ (e : ℕ × Item). e.1) p)) (map (λ e. e.1) near) (map (λ e. e.1) further)))
    go (Some e) q is also h = ((are.0, at_earliest new release (release x) same e at is), h near at_near)
    go None (Some e) is also h = ((are.0, at_earliest new place (own x) near e at_near also), h further (at_all_but new place (own x) near at_near))
    go None None is also h = (are.0, h further (at_all_but new place (own x) near at_near))

-- those that have a partner by release are no more among what can be upgraded to
pub left_after_keys : (items : List Item) (left : List (ℕ × Item)) → map (λ e. e.1) (after_keys release (map release items) left) ≡ without release (map (λ e. e.1) left) items
left_after_keys [] left = refl
left_after_keys (x ∷ xs) left = left_after_keys xs (all_but (λ e. release e.1) (release x) left) ∙ ap (λ l. without release l xs) (sym (all_but-map (λ e. e.1) release (release x) left))

-- those that have none are those that are left
pub left_unpaired : (n : ℕ) (items : List Item) (same : List (ℕ × Item)) → map (λ e. e.1) (pick n items (map is_none (partners_of release (map release items) same))) ≡ unpaired release items (map (λ e. e.1) same)
left_unpaired n [] same = refl
left_unpaired n (x ∷ xs) same =
    rw (earliest-map (λ e. e.1) release (release x) same, all_but-map (λ e. e.1) release (release x) same) (go (earliest (λ e. release e.1) (release x) same) (left_unpaired (n + 1) xs (all_but (λ e. release e.1) (release x) same)))
  where
    others : List (ℕ × Item)
    others = all_but (λ e. release e.1) (release x) same

    go : (p : Option (ℕ × Item)) → map (λ e. e.1) (pick (n + 1) xs (map is_none (partners_of release (map release xs) others))) ≡ unpaired release xs (map (λ e. e.1) others)
        → map (λ e. e.1) (cond (is_none (option_map (λ (e : ℕ × Item). e.0) p)) ((n, x) ∷ pick (n + 1) xs (map is_none (partners_of release (map release xs) others))) (pick (n + 1) xs (map is_none (partners_of release (map release xs) others))))
        ≡ cond (is_some (option_map (λ (e : ℕ × Item). e.1) p)) (unpaired release xs (map (λ e. e.1) others)) (x ∷ unpaired release xs (map (λ e. e.1) others))
    go (Some e) h = h
    go None h = ap (λ l. x ∷ l) h

-- and what is left at the end was added
pub left_added : (own place : Item → List ℕ) (items : List Item) (same near : List (ℕ × Item)) → map (λ e. e.1) (left_after_all place (partners_of release (map release items) same) (map own items) near) ≡ without_keys place (map (λ e. e.1) near) (map own (unpaired release items (map (λ e. e.1) same)))
left_added own place [] same near = refl
left_added own place (x ∷ xs) same near =
    rw (earliest-map (λ e. e.1) release (release x) same, all_but-map (λ e. e.1) release (release x) same) (go (earliest (λ e. release e.1) (release x) same) (left_added own place xs others))
  where
    others : List (ℕ × Item)
    others = all_but (λ e. release e.1) (release x) same

    further : List (ℕ × Item)
    further = all_but (λ e. place e.1) (own x) near

    go : (p : Option (ℕ × Item)) → ((near : List (ℕ × Item)) → map (λ e. e.1) (left_after_all place (partners_of release (map release xs) others) (map own xs) near) ≡ without_keys place (map (λ e. e.1) near) (map own (unpaired release xs (map (λ e. e.1) others))))
        → map (λ e. e.1) (left_after_all place (partners_of release (map release xs) others) (map own xs) (cond (is_some (option_map (λ (e : ℕ × Item). e.0) p)) near further))
        ≡ without_keys place (map (λ e. e.1) near) (map own (cond (is_some (option_map (λ (e : ℕ × Item). e.1) p)) (unpaired release xs (map (λ e. e.1) others)) (x ∷ unpaired release xs (map (λ e. e.1) others))))
    go (Some e) h = h near
    go None h = h further ∙ ap (λ l. without_keys place l (map own (unpaired release xs (map (λ e. e.1) others)))) (sym (all_but-map (λ e. e.1) place (own x) near))

-- Paragraphs that are kept have the releases and the places of their items.
use Rattle.std.proofs.Common.{◌≡◌, ℕ, List, [], ◌∷◌, ◌++◌, map, Bor, codes, refl, ap, ◌∙◌, append-nil}
use Rattle.std.proofs.lemmas.List.{append_assoc}
use Rattle.std.specs.List.{concat}
use Rattle.std.specs.Fmt.{decimal}
use Rattle.deb_diff.specs.Differences.{place, placing_of}
use Rattle.deb_diff.specs.Items.{Item, release}
use Rattle.deb_diff.specs.Kepts.{AreKept, IsKept, architecture_in, name_in, version_in}
use Rattle.deb_diff.specs.Lefts.{release_in}
use Rattle.deb_diff.specs.Places.{place_in, placing_in}
use Rattle.deb_diff.specs.Ranks.{rank}
use Rattle.deb_diff.specs.declared.kept.Kept.{Kept}

joined : (n v a : List ℕ) → n ++ codes " " ++ v ++ codes " " ++ a ≡ concat (n ∷ codes " " ∷ v ∷ codes " " ∷ a ∷ [])
joined n v a = simp (append_assoc, append-nil)

release_is : (kept : Kept) (item : Item) → IsKept kept item → release_in kept ≡ release item
release_is kept item is =
    ap (λ n. n ++ codes " " ++ version_in kept ++ codes " " ++ architecture_in kept) is.name
    ∙ ap (λ v. item.name ++ codes " " ++ v ++ codes " " ++ architecture_in kept) is.version
    ∙ ap (λ a. item.name ++ codes " " ++ item.version ++ codes " " ++ a) is.architecture
    ∙ joined item.name item.version item.architecture

pub releases_are : (refs : List (Bor Kept)) (items : List Item) → AreKept (map (λ k. k.now) refs) items → map (λ k. release_in k.now) refs ≡ map release items
releases_are [] [] are = refl
releases_are [] (item ∷ items) are = absurd are
releases_are (k ∷ refs) [] are = absurd are
releases_are (k ∷ refs) (item ∷ items) are = ap (λ l. l ∷ map (λ k. release_in k.now) refs) (release_is k.now item are.0) ∙ ap (λ l. release item ∷ l) (releases_are refs items are.1)

placing_is : (kept : Kept) (item : Item) → IsKept kept item → placing_in kept ≡ placing_of item
placing_is kept item is = rw (is.name, is.version, is.architecture, is.number) refl

placings_are : (kept : List Kept) (items : List Item) → AreKept kept items → map placing_in kept ≡ map placing_of items
placings_are [] [] are = refl
placings_are [] (item ∷ items) are = absurd are
placings_are (k ∷ kept) [] are = absurd are
placings_are (k ∷ kept) (item ∷ items) are = ap (λ p. p ∷ map placing_in kept) (placing_is k item are.0) ∙ ap (λ l. placing_of item ∷ l) (placings_are kept items are.1)

-- a paragraph that is kept has the place of its item among those that are left
place_is : (left : List Kept) (items : List Item) (kept : Kept) (item : Item) → AreKept left items → IsKept kept item → place_in left kept ≡ place items item
place_is left items kept item are is =
    ap (λ p. name_in kept ++ codes " " ++ architecture_in kept ++ codes " " ++ decimal (rank p (placing_in kept))) (placings_are left items are)
    ∙ ap (λ p. name_in kept ++ codes " " ++ architecture_in kept ++ codes " " ++ decimal (rank (map placing_of items) p)) (placing_is kept item is)
    ∙ ap (λ n. n ++ codes " " ++ architecture_in kept ++ codes " " ++ decimal (rank (map placing_of items) (placing_of item))) is.name
    ∙ ap (λ a. item.name ++ codes " " ++ a ++ codes " " ++ decimal (rank (map placing_of items) (placing_of item))) is.architecture
    ∙ joined item.name item.architecture (decimal (rank (map placing_of items) (placing_of item)))

pub places_are : (left : List Kept) (left_items : List Item) (refs : List (Bor Kept)) (items : List Item) → AreKept left left_items → AreKept (map (λ k. k.now) refs) items → map (λ k. place_in left k.now) refs ≡ map (place left_items) items
places_are left left_items [] [] are_left are = refl
places_are left left_items [] (item ∷ items) are_left are = absurd are
places_are left left_items (k ∷ refs) [] are_left are = absurd are
places_are left left_items (k ∷ refs) (item ∷ items) are_left are = ap (λ l. l ∷ map (λ k. place_in left k.now) refs) (place_is left left_items k.now item are_left are.0) ∙ ap (λ l. place left_items item ∷ l) (places_are left left_items refs items are_left are.1)

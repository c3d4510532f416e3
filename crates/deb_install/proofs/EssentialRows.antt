-- The rows of essential packages, package by package.
use Rattle.std.proofs.Common.{◌≡◌, ℕ, Bool, true, false, cond, not, ◌&&◌, List, [], ◌∷◌, map, codes, refl, sym, ap, ◌∙◌}
use Rattle.std.specs.List.{filter, flat_map}
use Rattle.deb_relation.specs.Applying.{is_among}
use Rattle.deb_field.specs.Values.{ValueMeaning}
use Rattle.deb_control.specs.Documents.{Meaning}
use Rattle.deb_control.specs.FieldWords.{word_under}
use Rattle.deb_control.specs.ValueFiles.{ValueEntries}
use Rattle.deb_index.specs.Listed.{Listed}
use Rattle.deb_index.specs.Named.{has_name, numbers_of}
use Rattle.deb_install.specs.Terms.{Terms, essential_rows, is_essential, is_marked, is_native, rows_if_essential}
use Rattle.deb_install.proofs.Appended.{map-kept}

map-twice : {X Y Z : Type 0} (f : Y → Z) (g : X → Y) (xs : List X) → map f (map g xs) ≡ map (λ x. f (g x)) xs
map-twice f g [] = refl
map-twice f g (x ∷ xs) = ap (λ l. f (g x) ∷ l) (map-twice f g xs)

module _ (t : Terms) (target : List ℕ) (packages : List Listed) where
  abbrev row : List ℕ → List ℕ
  row name = numbers_of (has_name name) packages

  abbrev name : ValueEntries ValueMeaning → List ℕ
  name = word_under (codes "Package")

  abbrev names_if : Bool → Meaning → List (List ℕ)
  names_if v meaning = cond v (map name (filter (is_essential t.without target) meaning)) []

  -- if they are asked
  pub rows-asked : (meaning : Meaning) → t.essential ≡ true → flat_map (rows_if_essential t.without target packages) meaning ≡ essential_rows t target packages meaning
  rows-asked meaning is =
      sym (map-kept (λ values. row (name values)) (is_essential t.without target) meaning)
      ∙ sym (map-twice row name (filter (is_essential t.without target) meaning))
      ∙ ap (λ v. map row (names_if v meaning)) (sym is)

  -- and if not
  pub rows-unasked : (meaning : Meaning) → t.essential ≡ false → [] ≡ essential_rows t target packages meaning
  rows-unasked meaning is = ap (λ v. map row (names_if v meaning)) (sym is)

-- what is kept of a package says whether it is essential
pub essential-known : (without : List (List ℕ)) (target : List ℕ) (values : ValueEntries ValueMeaning) (marked : Bool) (own architecture : List ℕ) → marked ≡ is_marked values → own ≡ word_under (codes "Package") values → architecture ≡ word_under (codes "Architecture") values
    → (marked && (is_native target architecture && not (is_among own without))) ≡ is_essential without target values
essential-known without target values marked own architecture is named arch = λ i. is i && (is_native target (arch i) && not (is_among (named i) without))

-- the row of a package that is essential, and none for another
pub row-there : (without : List (List ℕ)) (target : List ℕ) (packages : List Listed) (values : ValueEntries ValueMeaning) (own : List ℕ) → is_essential without target values ≡ true → own ≡ word_under (codes "Package") values → numbers_of (has_name own) packages ∷ [] ≡ rows_if_essential without target packages values
row-there without target packages values own is named =
    ap (λ n. numbers_of (has_name n) packages ∷ []) named
    ∙ ap (λ v. cond v (numbers_of (has_name (word_under (codes "Package") values)) packages ∷ []) []) (sym is)

pub row-not : (without : List (List ℕ)) (target : List ℕ) (packages : List Listed) (values : ValueEntries ValueMeaning) → is_essential without target values ≡ false → [] ≡ rows_if_essential without target packages values
row-not without target packages values is = ap (λ v. cond v (numbers_of (has_name (word_under (codes "Package") values)) packages ∷ []) []) (sym is)

-- Rows in lists, as a search over numbers reads them: the groups of each package by their numbers,
-- the rows of groups, and exclusions. No package has the number 0.
use Rattle.std.proofs.Common.{◌≡◌, ℕ, ◌+◌, ◌<◌, ◌≤◌, Bool, true, not, ◌&&◌, List, [], length, map, sym, ◌∙◌, arith}
use Rattle.std.specs.List.{list_all, list_any, slice_index_or}
use Rattle.std.specs.Prelude.{nat_lt}
use Rattle.std.proofs.lemmas.Bool.{and_from, and_parts, not-true, not_from_false}
use Rattle.std.proofs.lemmas.List.Folds.{list_all-map}
use Rattle.deb_install.specs.Members.{IsHealthyByRows}

module _ (needs groups excludes : List (List ℕ)) where
  -- the rows of a package, and what it excludes
  abbrev pub rows_in : ℕ → List (List ℕ)
  rows_in number = map (λ group. slice_index_or groups group []) (slice_index_or needs number [])

  abbrev pub excludes_in : ℕ → List ℕ
  excludes_in number = slice_index_or excludes number []

  abbrev pub fits_in : (ℕ → Bool) → ℕ → Bool
  fits_in set number =
      nat_lt number (length needs)
      && (list_all (λ group. list_any set (slice_index_or groups group [])) (slice_index_or needs number [])
      && not (list_any set (slice_index_or excludes number [])))

  met : (set : ℕ → Bool) (number : ℕ) → list_all (list_any set) (rows_in number) ≡ list_all (λ group. list_any set (slice_index_or groups group [])) (slice_index_or needs number [])
  met set number = list_all-map (list_any set) (λ group. slice_index_or groups group []) (slice_index_or needs number [])

  pub fitting-healthy : (count : ℕ) (set : ℕ → Bool) → ((number : ℕ) → set number ≡ true → fits_in set number ≡ true) → IsHealthyByRows count rows_in excludes_in set
  fitting-healthy count set fits = record {
    abundance = λ number some most contains. met set number ∙ (parts number contains).0;
    peace = λ number some most contains. not-true (list_any set (excludes_in number)) (parts number contains).1;
  }
    where
      parts : (number : ℕ) → set number ≡ true → (list_all (λ group. list_any set (slice_index_or groups group [])) (slice_index_or needs number []) ≡ true) × (not (list_any set (slice_index_or excludes number [])) ≡ true)
      parts number contains =
          and_parts (list_all (λ group. list_any set (slice_index_or groups group [])) (slice_index_or needs number [])) (not (list_any set (slice_index_or excludes number [])))
          (and_parts (nat_lt number (length needs)) (list_all (λ group. list_any set (slice_index_or groups group [])) (slice_index_or needs number []) && not (list_any set (slice_index_or excludes number []))) (fits number contains)).1

  pub healthy-fitting : (count : ℕ) (set : ℕ → Bool) → length needs ≡ count + 1 → ((number : ℕ) → set number ≡ true → (1 ≤ number) × (number ≤ count)) → IsHealthyByRows count rows_in excludes_in set → (number : ℕ) → set number ≡ true → fits_in set number ≡ true
  healthy-fitting count set long listed healthy number contains =
      let within = listed number contains in
      let below : number < length needs = omega (arith, within.1, long) in
      let less : nat_lt number (length needs) ≡ true = grind (arith, below) in
      let abundant = sym (met set number) ∙ healthy.abundance number within.0 within.1 contains in
      let peaceful = not_from_false (list_any set (excludes_in number)) (healthy.peace number within.0 within.1 contains) in
      and_from (nat_lt number (length needs)) _ less (and_from _ _ abundant peaceful)

-- A universe that says only some facts of another one, with its packages numbered from 0.
use Rattle.std.specs.Prelude.{◌≡◌, ℕ, Bool, true, false, List, [], ◌∷◌, All, Some, map, refl, slice_get, slice_index_or}
use Rattle.std.specs.List.{list_any}
use Rattle.deb_solve.specs.Health.{is_among, row}
use Rattle.deb_solve.specs.Reasons.{IsListed, excluded, needed}
use Rattle.deb_solve.specs.declared.facts.Fact.{Fact}
use Rattle.deb_solve.specs.declared.facts.Fact.TheVariants.{Needs, Excludes}
use Rattle.deb_solve.specs.declared.universe.Universe.{Universe}

-- The set of the new numbers of a set's packages. The list has the package of each new number.
abbrev pub renumbered : List ℕ → (ℕ → Bool) → ℕ → Bool
renumbered ids set number = slice_index_or (map set ids) number false

-- the set of 5 and 7, of which 7 has the new number 0
worked-renumbered : map (renumbered (7 ∷ 9 ∷ 5 ∷ []) (is_among (5 ∷ 7 ∷ []))) (0 ∷ 1 ∷ 2 ∷ 3 ∷ [])
    ≡ true ∷ false ∷ true ∷ false ∷ []
worked-renumbered = refl

-- the packages that can meet the need of a fact
abbrev pub candidates : Universe → Fact → List ℕ
candidates u (Needs member at) = row u.groups (needed u member at)
candidates u (Excludes by at) = []

-- 0 needs a group that 5 or 7 meets, and excludes 3; 1 needs a group that isn't there
abbrev example : Universe
example = record {
  needs = (1 ∷ []) ∷ (9 ∷ []) ∷ [];
  groups = (0 ∷ []) ∷ (5 ∷ 7 ∷ []) ∷ [];
  excludes = (3 ∷ []) ∷ [] ∷ [];
}

worked-candidates : map (candidates example) (Needs 0 0 ∷ Needs 1 0 ∷ Excludes 0 0 ∷ [])
    ≡ (5 ∷ 7 ∷ []) ∷ [] ∷ [] ∷ []
worked-candidates = refl

-- If one of the candidates is in a set of listed packages, one of the new numbers is in the
-- renumbered one.
abbrev pub Covers : Universe → List ℕ → List ℕ → List ℕ → Type 0
Covers u ids candidates numbers =
    (set : ℕ → Bool) → IsListed u set → list_any set candidates ≡ true
    → list_any (renumbered ids set) numbers ≡ true

-- A row of new numbers with a candidate covers it, and what the old row covers.
pub record AddsCandidate (u : Universe) (ids old new : List ℕ) (candidate : ℕ) : Type 0 where
  pub keeps : (set : ℕ → Bool) → list_any (renumbered ids set) old ≡ true
      → list_any (renumbered ids set) new ≡ true
  pub covers : (set : ℕ → Bool) → IsListed u set → set candidate ≡ true
      → list_any (renumbered ids set) new ≡ true

-- The fact with this number is a need of the member.
pub record IsNeed (facts : List Fact) (member fact : ℕ) : Type 0 where
  pub at : ℕ
  pub is : slice_get facts fact ≡ Some (Needs member at)

-- A fact says that the package excludes the one with this new number.
pub record IsExclusion (u : Universe) (facts : List Fact) (ids : List ℕ) (by number : ℕ)
    : Type 0 where
  pub fact : ℕ
  pub at : ℕ
  pub is : slice_get facts fact ≡ Some (Excludes by at)
  pub other : slice_get ids number ≡ Some (excluded u by at)

-- Two lists are related element by element.
abbrev pub Pairwise : {A B : Type 0} → (A → B → Type 0) → List A → List B → Type 0
Pairwise related [] [] = Unit {0}
Pairwise related [] (y ∷ ys) = ⊥
Pairwise related (x ∷ xs) [] = ⊥
Pairwise related (x ∷ xs) (y ∷ ys) = related x y × Pairwise related xs ys

-- The universe of facts. Its packages are those of a list, of which the first is the one that is
-- asked; what they need and exclude are facts. A group has the number of the fact that needs it.
pub record IsPart (u : Universe) (p : ℕ) (facts : List Fact) (ids : List ℕ) (part : Universe)
    : Type 0 where
  pub first : slice_get ids 0 ≡ Some p
  pub groups : Pairwise (λ fact. Covers u ids (candidates u fact)) facts part.groups
  pub needs : Pairwise (λ id. All (IsNeed facts id)) ids part.needs
  pub excludes : Pairwise (λ id. All (IsExclusion u facts ids id)) ids part.excludes

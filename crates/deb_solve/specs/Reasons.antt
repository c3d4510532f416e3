-- Why a package can't be installed: a few facts of a universe that rule it out.
use Rattle.std.specs.Prelude.{◌≡◌, ℕ, ◌<◌, ◌&&◌, ◌||◌, Bool, true, false, not, List, [], ◌∷◌, length, map, nat_lt, refl, slice_index}
use Rattle.std.specs.List.{list_all}
use Rattle.deb_solve.specs.Health.{is_among, is_met, row}
use Rattle.deb_solve.specs.declared.facts.Fact.{Fact}
use Rattle.deb_solve.specs.declared.facts.Fact.TheVariants.{Needs, Excludes}
use Rattle.deb_solve.specs.declared.universe.Universe.{Universe}

-- the group at an index of what a member needs
abbrev pub needed : Universe → ℕ → ℕ → ℕ
needed u member at = slice_index (row u.needs member) at

-- the package at an index of what another one excludes
abbrev pub excluded : Universe → ℕ → ℕ → ℕ
excluded u by at = slice_index (row u.excludes by) at

-- A universe says a fact if the package is listed, and its row has the index.
abbrev pub is_fact : Universe → Fact → Bool
is_fact u (Needs member at) =
    nat_lt member (length u.needs) && nat_lt at (length (row u.needs member))
is_fact u (Excludes by at) =
    nat_lt by (length u.needs) && nat_lt at (length (row u.excludes by))

-- A set respects a need if it meets the group or doesn't contain the member, and an exclusion if it
-- doesn't contain both packages.
abbrev pub respects : Universe → (ℕ → Bool) → Fact → Bool
respects u set (Needs member at) = not (set member) || is_met u set (needed u member at)
respects u set (Excludes by at) = not (set by && set (excluded u by at))

-- each package of a set is listed
abbrev pub IsListed : Universe → (ℕ → Bool) → Type 0
IsListed u set = (p : ℕ) → set p ≡ true → p < length u.needs

-- A set of listed packages that respects each of some facts. It may break all others.
pub record Respects (u : Universe) (facts : List Fact) (set : ℕ → Bool) : Type 0 where
  pub is_listed : IsListed u set
  pub each : list_all (respects u set) facts ≡ true

-- The universe says each of the facts, and no set that respects them contains the package.
pub record AreReasons (u : Universe) (p : ℕ) (facts : List Fact) : Type 0 where
  pub are_facts : list_all (is_fact u) facts ≡ true
  pub suffice : (set : ℕ → Bool) → Respects u facts set → set p ≡ false

-- Worked cases. 0 needs 1 or 2, and a group that isn't there; 1 excludes 3 and 0.
abbrev example : Universe
example = record {
  needs = (0 ∷ 9 ∷ []) ∷ [] ∷ [] ∷ [] ∷ [];
  groups = (1 ∷ 2 ∷ []) ∷ [];
  excludes = [] ∷ (3 ∷ 0 ∷ []) ∷ [] ∷ [] ∷ [];
}

worked-needed : map (needed example 0) (0 ∷ 1 ∷ []) ≡ 0 ∷ 9 ∷ []
worked-needed = refl

worked-excluded : map (excluded example 1) (0 ∷ 1 ∷ []) ≡ 3 ∷ 0 ∷ []
worked-excluded = refl

-- 0 has two needs, and no package has the number 4
worked-needs : map (is_fact example)
    (Needs 0 0 ∷ Needs 0 1 ∷ Needs 0 2 ∷ Needs 1 0 ∷ Needs 4 0 ∷ [])
    ≡ true ∷ true ∷ false ∷ false ∷ false ∷ []
worked-needs = refl

worked-excludes : map (is_fact example)
    (Excludes 1 0 ∷ Excludes 1 1 ∷ Excludes 1 2 ∷ Excludes 0 0 ∷ Excludes 4 0 ∷ [])
    ≡ true ∷ true ∷ false ∷ false ∷ false ∷ []
worked-excludes = refl

-- the sets of 0 and 2, of 0 and 3, and of 1 and 3
worked-met : map (λ set. respects example (is_among set) (Needs 0 0))
    ((0 ∷ 2 ∷ []) ∷ (0 ∷ 3 ∷ []) ∷ (1 ∷ 3 ∷ []) ∷ []) ≡ true ∷ false ∷ true ∷ []
worked-met = refl

-- no set with 0 meets a group that isn't there
worked-unmet : map (λ set. respects example (is_among set) (Needs 0 1))
    ((0 ∷ 1 ∷ 2 ∷ []) ∷ (1 ∷ 2 ∷ []) ∷ []) ≡ false ∷ true ∷ []
worked-unmet = refl

worked-both : map (λ set. respects example (is_among set) (Excludes 1 0))
    ((1 ∷ 3 ∷ []) ∷ (1 ∷ []) ∷ (3 ∷ []) ∷ []) ≡ false ∷ true ∷ true ∷ []
worked-both = refl

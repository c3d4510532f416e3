-- Which packages can be installed together. Debian Policy 7.2 to 7.4; the two conditions are those
-- of Mancinelli and others, 'Managing the Complexity of Large Free and Open Source Package-Based
-- Software Distributions'.
use Rattle.std.specs.Prelude.{◌≡◌, ℕ, ◌==◌, ◌&&◌, Bool, true, false, not, List, [], ◌∷◌, length, map, nat_lt, refl, slice_index_or}
use Rattle.std.specs.List.{list_all, list_any}
use Rattle.deb_solve.specs.declared.universe.Universe.{Universe}

-- the row with this number; one that isn't there has no numbers
abbrev pub row : List (List ℕ) → ℕ → List ℕ
row rows number = slice_index_or rows number []

-- A set of packages is a test of numbers; this is the set of a list.
abbrev pub is_among : List ℕ → ℕ → Bool
is_among members p = list_any (λ member. member == p) members

-- A group is met if a package of the set meets it.
abbrev pub is_met : Universe → (ℕ → Bool) → ℕ → Bool
is_met u set group = list_any set (row u.groups group)

-- A package fits a set if it is listed, the set meets each group that it needs, and it excludes no
-- package of the set.
abbrev pub fits : Universe → (ℕ → Bool) → ℕ → Bool
fits u set p =
    nat_lt p (length u.needs)
    && (list_all (is_met u set) (row u.needs p) && not (list_any set (row u.excludes p)))

-- A set is healthy if each of its packages fits it.
abbrev pub IsHealthy : Universe → (ℕ → Bool) → Type 0
IsHealthy u set = (p : ℕ) → set p ≡ true → fits u set p ≡ true

-- A package is installable if a healthy set contains it.
pub record IsInstallable (u : Universe) (p : ℕ) : Type 0 where
  pub set : ℕ → Bool
  pub is_healthy : IsHealthy u set
  pub contains : set p ≡ true

-- Worked cases. 0 needs 1 or 2, and 1 excludes 3. 2 needs a group that nothing meets; 3 needs 0.
-- 4 needs a group that isn't there.
abbrev example : Universe
example = record {
  needs = (0 ∷ []) ∷ [] ∷ (1 ∷ []) ∷ (2 ∷ []) ∷ (9 ∷ []) ∷ [];
  groups = (1 ∷ 2 ∷ []) ∷ [] ∷ (0 ∷ []) ∷ [];
  excludes = [] ∷ (3 ∷ []) ∷ [] ∷ [] ∷ [] ∷ [];
}

worked-row : map (row example.needs) (0 ∷ 1 ∷ 3 ∷ 5 ∷ [])
    ≡ (0 ∷ []) ∷ [] ∷ (2 ∷ []) ∷ [] ∷ []
worked-row = refl

worked-among : map (is_among (4 ∷ 2 ∷ [])) (2 ∷ 3 ∷ 4 ∷ []) ≡ true ∷ false ∷ true ∷ []
worked-among = refl

worked-met : map (is_met example (is_among (0 ∷ 2 ∷ []))) (0 ∷ 1 ∷ 2 ∷ 9 ∷ [])
    ≡ true ∷ false ∷ true ∷ false ∷ []
worked-met = refl

-- in the set of 0 and 1 each fits, and 3 would; with 3 in the set 1 doesn't, which excludes it
worked-fits : map (fits example (is_among (0 ∷ 1 ∷ []))) (0 ∷ 1 ∷ 2 ∷ 3 ∷ 4 ∷ 5 ∷ [])
    ≡ true ∷ true ∷ false ∷ true ∷ false ∷ false ∷ []
worked-fits = refl

worked-excludes : map (fits example (is_among (0 ∷ 1 ∷ 3 ∷ []))) (0 ∷ 1 ∷ 3 ∷ [])
    ≡ true ∷ false ∷ true ∷ []
worked-excludes = refl

-- alone 0 doesn't fit
worked-alone : map (fits example (is_among (0 ∷ []))) (0 ∷ 1 ∷ []) ≡ false ∷ true ∷ []
worked-alone = refl

-- What is known of lists of packages: which aren't in any healthy set, and how a list follows from
-- others.
use Rattle.std.specs.Prelude.{◌≡◌, ℕ, Bool, true, false, List}
use Rattle.std.specs.List.{list_all, list_any}
use Rattle.deb_solve.specs.Health.{IsHealthy, is_met}
use Rattle.deb_solve.specs.declared.universe.Universe.{Universe}

-- No healthy set contains the package.
abbrev pub IsOut : Universe → ℕ → Type 0
IsOut u p = (set : ℕ → Bool) → IsHealthy u set → set p ≡ false

-- No healthy set meets the group.
abbrev pub IsUnmet : Universe → ℕ → Type 0
IsUnmet u group = (set : ℕ → Bool) → IsHealthy u set → is_met u set group ≡ false

-- No healthy set contains all of these packages.
abbrev pub IsNogood : Universe → List ℕ → Type 0
IsNogood u packages =
    (set : ℕ → Bool) → IsHealthy u set → list_all set packages ≡ false

-- A healthy set that contains all of these packages contains one of the candidates.
abbrev pub Leads : Universe → List ℕ → List ℕ → Type 0
Leads u packages candidates =
    (set : ℕ → Bool) → IsHealthy u set → list_all set packages ≡ true
    → list_any set candidates ≡ true

-- A healthy set that contains all of the new list contains all of the old one, and not the
-- candidate.
pub record RulesOut (u : Universe) (old new : List ℕ) (candidate : ℕ) : Type 0 where
  pub keeps : (set : ℕ → Bool) → IsHealthy u set → list_all set new ≡ true
      → list_all set old ≡ true
  pub excludes : (set : ℕ → Bool) → IsHealthy u set → list_all set new ≡ true
      → set candidate ≡ false

-- The new list has all of the old one, and all of another list except the candidate.
pub record AddsOthers (old new other : List ℕ) (candidate : ℕ) : Type 0 where
  pub keeps : (set : ℕ → Bool) → list_all set new ≡ true → list_all set old ≡ true
  pub covers : (set : ℕ → Bool) → list_all set new ≡ true → set candidate ≡ true
      → list_all set other ≡ true

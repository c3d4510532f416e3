-- What the public calls promise.
use Rattle.std.specs.Prelude.{◌≡◌, ℕ, true, List, length, Some, slice_get}
use Rattle.deb_solve.specs.Health.{IsHealthy, IsInstallable, is_among}
use Rattle.deb_solve.specs.declared.universe.Universe.{Universe}
use Rattle.deb_solve.specs.declared.verdict.Verdict.{Verdict}
use Rattle.deb_solve.specs.declared.verdict.Verdict.TheVariants.{Installable, Uninstallable}
use Rattle.deb_solve.specs.declared.witnesses.SetOrVerdicts.{SetOrVerdicts}
use Rattle.deb_solve.specs.declared.witnesses.SetOrVerdicts.TheVariants.{Set, Refused}

-- A package with the verdict `Installable` is installable, and one with `Uninstallable` isn't.
pub record AreTrue (u : Universe) (verdicts : List Verdict) : Type 0 where
  pub yes : (p : ℕ) → slice_get verdicts p ≡ Some Installable → IsInstallable u p
  pub no : (p : ℕ) → slice_get verdicts p ≡ Some Uninstallable → IsInstallable u p → ⊥

-- Each package of a universe has a verdict, and the verdicts are true.
pub record AreVerdicts (u : Universe) (verdicts : List Verdict) : Type 0 where
  pub each : length verdicts ≡ length u.needs
  pub are_true : AreTrue u verdicts

-- A healthy set that contains a package.
pub record IsSetWith (u : Universe) (p : ℕ) (members : List ℕ) : Type 0 where
  pub is_healthy : IsHealthy u (is_among members)
  pub contains : is_among members p ≡ true

-- A healthy set that contains one of the packages that are wanted.
pub record HasWitness (u : Universe) (wanted members : List ℕ) : Type 0 where
  pub number : ℕ
  pub is_wanted : is_among wanted number ≡ true
  pub is : IsSetWith u number members

-- None of these verdicts is `Installable`.
abbrev pub NoneIsInstallable : List Verdict → Type 0
NoneIsInstallable verdicts = (p : ℕ) → slice_get verdicts p ≡ Some Installable → ⊥

-- Each package has a verdict, they are true, and none of them is `Installable`.
pub record AreRefusals (u : Universe) (verdicts : List Verdict) : Type 0 where
  pub are : AreVerdicts u verdicts
  pub none : NoneIsInstallable verdicts

-- A set with one of the packages that are wanted; or verdicts, of which none is `Installable`.
abbrev pub IsWitness : Universe → List ℕ → SetOrVerdicts → Type 0
IsWitness u wanted (Set members) = HasWitness u wanted members.items
IsWitness u wanted (Refused verdicts) = AreRefusals u verdicts.items

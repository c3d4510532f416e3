-- What a search among packages finds: a healthy set, or verdicts. This project's own.
use Rattle.std.specs.Prelude.{◌≡◌, ℕ, true, List}
use Rattle.deb_control.specs.Documents.{Meaning}
use Rattle.deb_index.specs.Listed.{Listed}
use Rattle.deb_relation.specs.Applying.{Environment}
use Rattle.deb_solve.specs.Health.{is_among}
use Rattle.deb_solve.specs.Verdicts.{NoneIsInstallable}
use Rattle.deb_solve.specs.declared.verdict.Verdict.{Verdict}
use Rattle.deb_solve.specs.declared.witnesses.SetOrVerdicts.{SetOrVerdicts}
use Rattle.deb_solve.specs.declared.witnesses.SetOrVerdicts.TheVariants.{Set, Refused}
use Rattle.deb_install.specs.Answers.{AreVerdictsIn, AskedNames, names_asked}
use Rattle.deb_install.specs.Installable.{is_healthy_by_terms}
use Rattle.deb_install.specs.Terms.{Terms}
use Rattle.deb_install.specs.Witnesses.{IsAskedAt}
use Rattle.deb_install.specs.declared.readings.Readings.{Readings}

-- Each of these numbers is of a package that is listed and asked.
abbrev pub AreAsked : AskedNames → List Listed → List ℕ → Type 0
AreAsked names packages numbers =
    (number : ℕ) → is_among numbers number ≡ true → IsAskedAt names packages number

-- These are the numbers of a set that is healthy in these readings, and contains a package that is
-- asked.
pub record IsSetIn (readings : Readings) (t : Terms) (names : List (List ℕ))
    (environment : Environment) (packages : List Listed) (meaning : Meaning)
    (members : List ℕ) : Type 0 where
  pub healthy : is_healthy_by_terms readings t environment packages meaning (is_among members)
      ≡ true
  pub number : ℕ
  pub is_asked : IsAskedAt (names_asked names t.without) packages number
  pub contains : is_among members number ≡ true

-- Verdicts are true in these readings, and none is `Installable`.
pub record AreRefusalsIn (readings : Readings) (t : Terms) (environment : Environment)
    (packages : List Listed) (meaning : Meaning) (verdicts : List Verdict) : Type 0 where
  pub are : AreVerdictsIn readings t environment packages meaning verdicts
  pub none : NoneIsInstallable verdicts

abbrev pub IsFoundIn : Readings → Terms → List (List ℕ) → Environment → List Listed → Meaning
    → SetOrVerdicts → Type 0
IsFoundIn readings t names environment packages meaning (Set members) =
    IsSetIn readings t names environment packages meaning members.items
IsFoundIn readings t names environment packages meaning (Refused verdicts) =
    AreRefusalsIn readings t environment packages meaning verdicts.items

-- The lines of packages by verdicts, with reasons or without.
use Rattle.std.proofs.Common.{◌≡◌, ℕ, true, false, List, [], map, refl, sym, ap, ◌∙◌}
use Rattle.deb_relation.specs.Applying.{Environment}
use Rattle.deb_control.specs.Documents.{Meaning}
use Rattle.deb_control.specs.Pairs.{Pairwise}
use Rattle.deb_index.specs.Listed.{Listed}
use Rattle.deb_index.specs.Listing.{Lists}
use Rattle.deb_solve.specs.Verdicts.{AreVerdicts}
use Rattle.deb_solve.specs.declared.universe.Universe.{Universe}
use Rattle.deb_solve.specs.declared.verdict.Verdict.{Verdict}
use Rattle.deb_install.specs.Answers.{AreVerdictsIn, AskedNames, answer_at, answer_lines}
use Rattle.deb_install.specs.Explaining.{HasExplained, HasLines, HasReasons, reason_of}
use Rattle.deb_install.specs.Installing.{AsksInstallable, names_by}
use Rattle.deb_install.specs.ReasonLines.{lines_with}
use Rattle.deb_install.specs.Reasons.{AreReasonsIn}
use Rattle.deb_install.specs.Terms.{Terms}
use Rattle.deb_install.specs.Universes.{IsUniverseOf, setting}
use Rattle.deb_install.specs.declared.readings.Readings.TheVariants.{One}
use Rattle.deb_install.proofs.Contained.{contains-none}
use Rattle.deb_install.proofs.ExplainedLines.{plain-lines}
use Rattle.deb_install.proofs.TrueReasons.{true-reasons}
use Rattle.deb_install.proofs.TrueVerdicts.{verdicts-in}

module _ (t : Terms) (environment : Environment) (packages : List Listed) (meaning : Meaning) where
  without-reasons : AreReasonsIn t environment packages meaning (λ number. [])
  without-reasons number = record {
    are_true = λ reason has. absurd (contains-none reason has);
    rule_out = λ some. absurd (some refl);
  }

  nothing-said : AreVerdictsIn One t environment packages meaning []
  nothing-said = record { yes = λ number some most at. absurd cc; no = λ number some most at. absurd cc }

  -- without verdicts in one reading no package is uninstallable
  pub has-no-reasons : (names : AskedNames) (every : List Verdict) (text : List ℕ) → text ≡ answer_lines names (answer_at every []) packages → HasReasons t environment packages meaning names every text
  has-no-reasons names every text is = record {
    one = [];
    are = nothing-said;
    reasons = λ number. [];
    are_reasons = without-reasons;
    is = is ∙ plain-lines names (answer_at every []) packages;
  }

  pub has-reasons : (names : AskedNames) (u : Universe) (every one : List Verdict) (text : List ℕ) → IsUniverseOf (setting One t environment packages meaning) u → Pairwise Lists meaning packages → AreVerdicts u one
      → HasExplained (setting One t environment packages meaning) u names (answer_at every one) text → HasReasons t environment packages meaning names every text
  has-reasons names u every one text is lists verdicts has =
      let s = setting One t environment packages meaning in
      record {
        one = one;
        are = verdicts-in s u one is lists verdicts;
        reasons = λ number. map (reason_of s u) (has.found number);
        are_reasons = λ number. true-reasons t environment packages meaning u is lists number (has.found number) (has.explain number);
        is = has.is;
      }

module _ (asks : AsksInstallable) (packages : List Listed) (meaning : Meaning) (every : List Verdict) (text : List ℕ) where
  pub lines-with : asks.reasons ≡ true → HasReasons asks.terms asks.environment packages meaning (names_by asks) every text → HasLines asks packages meaning every text
  lines-with asked has = record {
    one = has.one;
    are = has.are;
    reasons = has.reasons;
    are_reasons = has.are_reasons;
    is = has.is ∙ ap (λ v. lines_with v (names_by asks) (answer_at every has.one) has.reasons packages) (sym asked);
  }

  pub lines-without : (one : List Verdict) → asks.reasons ≡ false → AreVerdictsIn One asks.terms asks.environment packages meaning one → text ≡ answer_lines (names_by asks) (answer_at every one) packages → HasLines asks packages meaning every text
  lines-without one unasked are is = record {
    one = one;
    are = are;
    reasons = λ number. [];
    are_reasons = without-reasons asks.terms asks.environment packages meaning;
    is = is ∙ ap (λ v. lines_with v (names_by asks) (answer_at every one) (λ number. []) packages) (sym unasked);
  }

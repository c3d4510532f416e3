-- The lines of source packages by verdicts, with reasons or without.
use Rattle.std.proofs.Common.{◌≡◌, ℕ, Bool, true, false, List, [], map, refl, sym, ap, ◌∙◌}
use Rattle.deb_relation.specs.Applying.{Environment}
use Rattle.deb_control.specs.Documents.{Meaning}
use Rattle.deb_control.specs.Pairs.{Pairwise}
use Rattle.deb_index.specs.Listed.{Listed}
use Rattle.deb_index.specs.Listing.{Lists}
use Rattle.deb_solve.specs.declared.universe.Universe.{Universe}
use Rattle.deb_solve.specs.declared.verdict.Verdict.{Verdict}
use Rattle.deb_install.specs.Answers.{answer_at}
use Rattle.deb_install.specs.SourceAnswers.{AreSourceVerdicts, source_lines}
use Rattle.deb_install.specs.SourceExplaining.{HasSourceAnswers, HasSourceReasons, HasSourcesExplained, source_reason_of}
use Rattle.deb_install.specs.SourceReasonLines.{source_lines_with}
use Rattle.deb_install.specs.SourceReasons.{AreSourceReasonsIn}
use Rattle.deb_install.specs.SourceRows.{IsUniverseWith}
use Rattle.deb_install.specs.Terms.{Terms}
use Rattle.deb_install.specs.Universes.{setting}
use Rattle.deb_install.specs.declared.readings.Readings.TheVariants.{Every, One}
use Rattle.deb_install.specs.declared.source_kind.SourceKind.{SourceKind}
use Rattle.deb_install.proofs.Contained.{contains-none}
use Rattle.deb_install.proofs.ExplainedSources.{plain-lines}
use Rattle.deb_install.proofs.SourceLines.{sources-true}
use Rattle.deb_install.proofs.TrueSourceReasons.{true-source-reasons}

module _ (kind : SourceKind) (t : Terms) (environment : Environment) (packages : List Listed) (meaning sources : Meaning) (every : List Verdict) (text : List ℕ) where
  without-reasons : AreSourceReasonsIn t environment packages meaning sources (λ k. [])
  without-reasons k values at = record {
    are_true = λ reason has. absurd (contains-none reason has);
    rule_out = λ some. absurd (some refl);
  }

  nothing-said : AreSourceVerdicts One t environment packages meaning sources []
  nothing-said = record { yes = λ k values at verdict. absurd cc; no = λ k values at verdict. absurd cc }

  -- without verdicts in one reading no source package is uninstallable
  pub has-no-reasons : text ≡ source_lines kind (answer_at every []) sources → HasSourceReasons true kind t environment packages meaning sources every text
  has-no-reasons is = record {
    one = [];
    are = nothing-said;
    reasons = λ k. [];
    are_reasons = without-reasons;
    is = is ∙ plain-lines kind packages sources (answer_at every []) 0 sources;
  }

  pub has-reasons : (u : Universe) (one : List Verdict) → IsUniverseWith (setting One t environment packages meaning) sources u → Pairwise Lists meaning packages → AreSourceVerdicts One t environment packages meaning sources one
      → HasSourcesExplained kind (setting One t environment packages meaning) sources u (answer_at every one) text → HasSourceReasons true kind t environment packages meaning sources every text
  has-reasons u one is lists verdicts has = record {
    one = one;
    are = verdicts;
    reasons = λ k. map (source_reason_of (setting One t environment packages meaning) sources u) (has.found k);
    are_reasons = λ k values at. true-source-reasons t environment packages meaning sources u is lists k values (has.found k) at (has.explain k);
    is = has.is;
  }

  pub lines-with : (asked : Bool) → asked ≡ true → HasSourceReasons true kind t environment packages meaning sources every text → HasSourceReasons asked kind t environment packages meaning sources every text
  lines-with asked is_asked has = record {
    one = has.one;
    are = has.are;
    reasons = has.reasons;
    are_reasons = has.are_reasons;
    is = has.is ∙ ap (λ v. source_lines_with v kind (answer_at every has.one) has.reasons packages sources) (sym is_asked);
  }

  pub lines-without : (asked : Bool) (one : List Verdict) → asked ≡ false → AreSourceVerdicts One t environment packages meaning sources one → text ≡ source_lines kind (answer_at every one) sources → HasSourceReasons asked kind t environment packages meaning sources every text
  lines-without asked one unasked are is = record {
    one = one;
    are = are;
    reasons = λ k. [];
    are_reasons = without-reasons;
    is = is ∙ ap (λ v. source_lines_with v kind (answer_at every one) (λ k. []) packages sources) (sym unasked);
  }

  pub has-source-answers : (asked : Bool) → AreSourceVerdicts Every t environment packages meaning sources every → HasSourceReasons asked kind t environment packages meaning sources every text → HasSourceAnswers asked kind t environment packages meaning sources text
  has-source-answers asked in_every has = record {
    answer = answer_at every has.one;
    are_true = sources-true t environment packages meaning sources every has.one in_every has.are;
    reasons = has.reasons;
    are_reasons = has.are_reasons;
    is = has.is;
  }

-- The line of a fact is about a package or about a source package.
use Rattle.std.proofs.Common.{◌≡◌, ℕ, ◌+◌, ◌-◌, ◌<◌, ◌==◌, false, true, cond, List, [], ◌∷◌, ◌++◌, length, take, get_or, append-nil, append_assoc, Some, slice_get, codes, sym, ap, ◌∙◌}
use Rattle.std.specs.List.{flat_map}
use Rattle.std.proofs.lemmas.Grind.{flat_map-append}
use Rattle.std.proofs.lemmas.List.{take_more}
use Rattle.std.proofs.lemmas.Bool.{eqb-true, false_from_ne_true}
use Rattle.std.proofs.lemmas.Option.{get_or_from_slice_get}
use Rattle.deb_control.specs.Documents.{Meaning}
use Rattle.deb_field.specs.Values.{ValueMeaning}
use Rattle.deb_control.specs.ValueFiles.{ValueEntries}
use Rattle.deb_health.specs.Lines.{line_at}
use Rattle.deb_index.specs.ReportText.{canonical_version, package_line}
use Rattle.deb_relation.specs.Texts.{group_text}
use Rattle.deb_solve.specs.Health.{row}
use Rattle.deb_solve.specs.Reasons.{excluded, needed}
use Rattle.deb_solve.specs.declared.facts.Fact.{Fact}
use Rattle.deb_solve.specs.declared.facts.Fact.TheVariants as facts
use Rattle.deb_solve.specs.declared.universe.Universe.{Universe}
use Rattle.deb_install.specs.Explaining.{reason_of}
use Rattle.deb_install.specs.ReasonLines.{need_words, reason_line}
use Rattle.deb_install.specs.SourceExplaining.{built_group, built_groups, member_of, source_reason_of}
use Rattle.deb_install.specs.SourceReasonLines.{source_reason_line, source_with}
use Rattle.deb_install.specs.SourceReasons.{BuildExcludes, BuildNeeds, OfPackage}
use Rattle.deb_install.specs.Universes.{Setting}
use Rattle.deb_install.specs.declared.source_kind.SourceKind.{SourceKind}

module _ (kind : SourceKind) (s : Setting) (sources : Meaning) (u : Universe) where
  abbrev line_of_fact : Fact → List ℕ
  line_of_fact fact = source_reason_line kind s.packages sources (source_reason_of s sources u fact)

  abbrev number_of : Fact → ℕ
  number_of fact = member_of fact - length s.packages

  is-zero : (fact : Fact) (number : ℕ) → number ≡ number_of fact → number ≡ 0 → (number_of fact == 0) ≡ true
  is-zero fact number is none = ap (λ n. n == 0) (sym is ∙ none)

  pub package-need : (member at number : ℕ) → number ≡ member - length s.packages → number ≡ 0 → reason_line s.packages (reason_of s u (facts.Needs member at)) ≡ line_of_fact (facts.Needs member at)
  package-need member at number is zero =
      let fact = facts.Needs member at in
      ap (λ v. source_reason_line kind s.packages sources (cond v (OfPackage (reason_of s u fact)) (BuildNeeds (number_of fact) (built_group s sources (number_of fact) at) (row u.groups (needed u member at))))) (sym (is-zero fact number is zero))

  pub package-exclusion : (by at number : ℕ) → number ≡ by - length s.packages → number ≡ 0 → reason_line s.packages (reason_of s u (facts.Excludes by at)) ≡ line_of_fact (facts.Excludes by at)
  package-exclusion by at number is zero =
      let fact = facts.Excludes by at in
      ap (λ v. source_reason_line kind s.packages sources (cond v (OfPackage (reason_of s u fact)) (BuildExcludes (number_of fact) (excluded u by at)))) (sym (is-zero fact number is zero))

  not-zero : (fact : Fact) (number : ℕ) → number ≡ number_of fact → (number ≡ 0 → ⊥) → (number_of fact == 0) ≡ false
  not-zero fact number is some = false_from_ne_true (number_of fact == 0) (λ none. some (is ∙ eqb-true (number_of fact) 0 none))

  pub source-need : (member at number : ℕ) → number ≡ member - length s.packages → (number ≡ 0 → ⊥) → source_with kind sources number (need_words (group_text (built_group s sources number at)) (row u.groups (needed u member at))) ≡ line_of_fact (facts.Needs member at)
  source-need member at number is some =
      let fact = facts.Needs member at in
      ap (λ n. source_with kind sources n (need_words (group_text (built_group s sources n at)) (row u.groups (needed u member at)))) is
      ∙ ap (λ v. source_reason_line kind s.packages sources (cond v (OfPackage (reason_of s u fact)) (BuildNeeds (number_of fact) (built_group s sources (number_of fact) at) (row u.groups (needed u member at))))) (sym (not-zero fact number is some))

  pub source-exclusion : (by at number : ℕ) → number ≡ by - length s.packages → (number ≡ 0 → ⊥) → line_at (λ p. source_with kind sources number (codes " excludes" ++ package_line canonical_version p)) s.packages (excluded u by at) ≡ line_of_fact (facts.Excludes by at)
  source-exclusion by at number is some =
      let fact = facts.Excludes by at in
      ap (λ n. line_at (λ p. source_with kind sources n (codes " excludes" ++ package_line canonical_version p)) s.packages (excluded u by at)) is
      ∙ ap (λ v. source_reason_line kind s.packages sources (cond v (OfPackage (reason_of s u fact)) (BuildExcludes (number_of fact) (excluded u by at)))) (sym (not-zero fact number is some))

-- the group of a row, by the values of the source package
pub group-at : (s : Setting) (sources : Meaning) (number k at : ℕ) (values : ValueEntries ValueMeaning) → slice_get sources k ≡ Some values → k ≡ number - 1 → get_or (built_groups s.environment values) at [] ≡ built_group s sources number at
group-at s sources number k at values there is =
    ap (λ v. get_or (built_groups s.environment v) at []) (sym (get_or_from_slice_get sources k values [] there))
    ∙ ap (λ n. get_or (built_groups s.environment (get_or sources n [])) at []) is

-- the line of one fact more
pub fact-more : (line : Fact → List ℕ) (found : List Fact) (i : ℕ) (d : Fact) (before out now : List ℕ) → i < length found → now ≡ out ++ line (get_or found i d) → out ≡ before ++ flat_map line (take i found) → now ≡ before ++ flat_map line (take (i + 1) found)
fact-more line found i d before out now within is so_far =
    let fact = get_or found i d in
    is ∙ ap (λ l. l ++ line fact) so_far
    ∙ append_assoc before (flat_map line (take i found)) (line fact)
    ∙ ap (λ l. before ++ (flat_map line (take i found) ++ l)) (sym (append-nil (line fact)))
    ∙ ap (λ l. before ++ l) (sym (flat_map-append line (take i found) (fact ∷ [])))
    ∙ ap (λ l. before ++ flat_map line l) (sym (take_more found i d within))

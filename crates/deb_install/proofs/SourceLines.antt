-- The lines of source packages, one by one, and that answers by verdicts are true.
use Rattle.std.proofs.Common.{◌≡◌, ℕ, ◌+◌, List, ◌++◌, Some, slice_get, append_assoc, refl, sym, ap, ◌∙◌}
use Rattle.std.specs.List.{slice_index_or}
use Rattle.deb_field.specs.Values.{ValueMeaning}
use Rattle.deb_control.specs.Documents.{Meaning}
use Rattle.deb_control.specs.FieldWords.{word_under}
use Rattle.deb_control.specs.ValueFiles.{ValueEntries}
use Rattle.deb_index.specs.Listed.{Listed}
use Rattle.deb_relation.specs.Applying.{Environment}
use Rattle.deb_solve.specs.declared.verdict.Verdict.{Verdict}
use Rattle.deb_solve.specs.declared.verdict.Verdict.TheVariants as solved
use Rattle.deb_install.specs.Answers.{answer_at, answer_by}
use Rattle.deb_install.specs.KeptSources.{HoldsSource}
use Rattle.deb_install.specs.SourceAnswers.{AreSourceAnswers, AreSourceVerdicts, SaysOfSource, line_of, source_line, source_lines_from}
use Rattle.deb_install.specs.SourceKinds.{name_field}
use Rattle.deb_install.specs.Terms.{Terms}
use Rattle.deb_install.specs.declared.answer.Answer.{Answer}
use Rattle.deb_install.specs.declared.kept_source.KeptSource.{KeptSource}
use Rattle.deb_install.specs.declared.readings.Readings.TheVariants.{Every, One}
use Rattle.deb_install.specs.declared.source_kind.SourceKind.{SourceKind}
use Rattle.deb_install.proofs.AnswerLines.{known-at}
use Rattle.deb_install.proofs.NextOf.{NextOf}
use Rattle.std.proofs.Common.{drop}

-- the line of one source package more
pub source-next : (kind : SourceKind) (answer : ℕ → Answer) (meaning : Meaning) (n : ℕ) (source : KeptSource) (out now all : List ℕ) → NextOf (HoldsSource kind) meaning n source → now ≡ out ++ source_line (answer n) (n + 1) source.name.items source.version.items → out ++ source_lines_from kind answer n (drop n meaning) ≡ all → now ++ source_lines_from kind answer (n + 1) (drop (n + 1) meaning) ≡ all
source-next kind answer meaning n source out now all next one before =
    let rest = source_lines_from kind answer (n + 1) (drop (n + 1) meaning) in
    let line = line_of kind (answer n) (n + 1) next.x in
    let own : source_line (answer n) (n + 1) source.name.items source.version.items ≡ line =
    ap (λ name. source_line (answer n) (n + 1) name source.version.items) next.related.name
    ∙ ap (source_line (answer n) (n + 1) (word_under (name_field kind) next.x)) next.related.version in
    ap (λ l. l ++ rest) (one ∙ ap (λ l. out ++ l) own)
    ∙ append_assoc out line rest
    ∙ ap (λ l. out ++ source_lines_from kind answer n l) (sym next.left)
    ∙ before

module _ (t : Terms) (environment : Environment) (packages : List Listed) (meaning sources : Meaning) (every one : List Verdict) (in_every : AreSourceVerdicts Every t environment packages meaning sources every) (in_one : AreSourceVerdicts One t environment packages meaning sources one) where
  say : (k : ℕ) (values : ValueEntries ValueMeaning) → slice_get sources k ≡ Some values → (v w : Verdict) → slice_index_or every k solved.Undecided ≡ v → slice_index_or one k solved.Undecided ≡ w → SaysOfSource (answer_by v w) t environment packages meaning values
  say k values at solved.Installable w is is_one = in_every.yes k values at (known-at every k solved.Installable (λ e. cc) is)
  say k values at solved.Undecided w is is_one = tt
  say k values at solved.Uninstallable solved.Installable is is_one =
      (in_one.yes k values at (known-at one k solved.Installable (λ e. cc) is_one), in_every.no k values at (known-at every k solved.Uninstallable (λ e. cc) is))
  say k values at solved.Uninstallable solved.Uninstallable is is_one = in_one.no k values at (known-at one k solved.Uninstallable (λ e. cc) is_one)
  say k values at solved.Uninstallable solved.Undecided is is_one = tt

  pub sources-true : AreSourceAnswers t environment packages meaning sources (answer_at every one)
  sources-true k values at = say k values at (slice_index_or every k solved.Undecided) (slice_index_or one k solved.Undecided) refl refl

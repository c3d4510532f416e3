-- The lines of the source packages so far, and then those of the others.
use Rattle.std.proofs.Common.{◌≡◌, ◌++◌, drop}
use Rattle.deb_control.specs.Documents.{Meaning}
use Rattle.deb_control.specs.Pairs.{Pairwise}
use Rattle.deb_install.specs.Answers.{answer_at}
use Rattle.deb_install.specs.KeptSources.{HoldsSource}
use Rattle.deb_install.specs.SourceAnswers.{source_lines, source_lines_from}
use Rattle.deb_install.specs.declared.source_kind.SourceKind.{SourceKind}
use Rattle.deb_install.proofs.source_lines.lines_of_sources.Given as goal

abbrev pub invariant-loop-count : goal.invariant-loop-count
invariant-loop-count l =
    (kind : SourceKind) (meaning : Meaning) → Pairwise (HoldsSource kind) meaning l.sources
    → l.text.items ++ source_lines_from kind (answer_at l.every l.one) l.count (drop l.count meaning)
    ≡ source_lines kind (answer_at l.every l.one) meaning

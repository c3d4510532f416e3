-- The lines of the source packages so far, with facts that explain them.
use Rattle.std.proofs.Common.{length, map}
use Rattle.deb_control.specs.Documents.{Meaning}
use Rattle.deb_index.specs.Indexes.{packages_of}
use Rattle.deb_install.specs.Answers.{answer_at}
use Rattle.deb_install.specs.SourceExplaining.{HoldsForSources, setting_for, source_reason_of, universe_for}
use Rattle.deb_install.specs.SourceReasonLines.{explained_source}
use Rattle.deb_install.specs.declared.source_kind.SourceKind.{SourceKind}
use Rattle.deb_install.proofs.ExplainedSources.{SourcesExplainedTo}
use Rattle.deb_install.proofs.source_explaining.explained_sources.Given as goal

abbrev pub invariant-loop-count : goal.invariant-loop-count
invariant-loop-count l =
    (kind : SourceKind) (meaning others : Meaning) → HoldsForSources kind meaning others l.explaining
    → SourcesExplainedTo (universe_for l.explaining) (length (packages_of l.explaining.packages.now.listing.now.index.now))
    (λ found k. explained_source kind (packages_of l.explaining.packages.now.listing.now.index.now) others (answer_at l.every l.one k) (map (source_reason_of (setting_for l.explaining meaning) others (universe_for l.explaining)) found) k)
    others l.count l.text.items

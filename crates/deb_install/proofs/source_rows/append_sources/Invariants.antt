-- The rows of the source packages so far.
use Rattle.std.proofs.Common.{take}
use Rattle.deb_control.specs.Documents.{Meaning}
use Rattle.deb_control.specs.Pairs.{Pairwise}
use Rattle.deb_install.specs.KeptSources.{HoldsSource}
use Rattle.deb_install.specs.SourceRows.{AppendsSources}
use Rattle.deb_install.specs.declared.source_kind.SourceKind.{SourceKind}
use Rattle.deb_install.specs.Universes.{AreKnownIn, setting_of}
use Rattle.deb_install.proofs.source_rows.append_sources.Given as goal

abbrev pub invariant-loop-count : goal.invariant-loop-count
invariant-loop-count l =
    (kind : SourceKind) (meaning others : Meaning) → Pairwise (HoldsSource kind) others l.sources
    → AreKnownIn (setting_of l.listing meaning) l.initial.building
    → AppendsSources (setting_of l.listing meaning) (take l.count others) l.initial.building l.building

use Rattle.deb_control.specs.ReadingOn.{shown}
use Rattle.deb_control.proofs.ShownSoFar.{ShownSoFar}
use Rattle.deb_install.specs.SourceKinds.{doc_of}
use Rattle.deb_install.proofs.SourcesRead.{SourcesGiven}
use Rattle.deb_install.proofs.source_reading.read_sources.Given as goal

abbrev pub invariant-loop-count : goal.invariant-loop-count
invariant-loop-count g l = ShownSoFar (doc_of l.kind) (shown (g.R.Source.left l.initial.reader) (g.R.Source.failures l.initial.reader)) (SourcesGiven l.kind l.sources.items) l.checked (shown (g.R.Source.left l.reader) (g.R.Source.failures l.reader)) l.count

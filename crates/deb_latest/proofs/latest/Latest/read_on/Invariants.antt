use Rattle.deb_control.specs.ReadingOn.{shown}
use Rattle.deb_control.proofs.ShownSoFar.{ShownSoFar}
use Rattle.deb_latest.specs.Entries.{doc_of}
use Rattle.deb_latest.specs.Reads.{kind_of}
use Rattle.deb_latest.proofs.Reading.{LatestGiven}
use Rattle.deb_latest.proofs.latest.Latest.read_on.Given as goal

abbrev pub invariant-loop-count : goal.invariant-loop-count
invariant-loop-count g l = ShownSoFar (doc_of (kind_of l.initial.self)) (shown (g.R.Source.left l.initial.reader) (g.R.Source.failures l.initial.reader)) (LatestGiven (kind_of l.initial.self) l.initial.self l.self) l.checked (shown (g.R.Source.left l.reader) (g.R.Source.failures l.reader)) l.count

use Rattle.deb_control.specs.ReadingOn.{shown}
use Rattle.deb_control.proofs.ShownSoFar.{ShownSoFar}
use Rattle.debctl_ffi.specs.Fields.{numbered_from}
use Rattle.debctl_ffi.specs.Tables.{HasTables}
use Rattle.debctl_ffi.proofs.read_fields.read_fields.Given as goal

abbrev pub invariant-loop-count : goal.invariant-loop-count
invariant-loop-count g l = ShownSoFar l.fn.doc (shown (g.R.Source.left l.initial.reader) (g.R.Source.failures l.initial.reader)) (λ given. HasTables l.tables (numbered_from 1 given)) l.checked (shown (g.R.Source.left l.reader) (g.R.Source.failures l.reader)) l.count

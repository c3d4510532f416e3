use Rattle.deb_control.specs.ReadingOn.{shown}
use Rattle.deb_control.proofs.ShownSoFar.{ShownSoFar}
use Rattle.deb_index.specs.Members.{doc_of}
use Rattle.deb_index.proofs.Indexed.{ReadGiven}
use Rattle.deb_index.proofs.index.read_into.Given as goal

abbrev pub invariant-loop-count : goal.invariant-loop-count
invariant-loop-count g l = ShownSoFar (doc_of l.members) (shown (g.R.Source.left l.initial.reader) (g.R.Source.failures l.initial.reader)) (ReadGiven l.members (g.K.Keeper.Keeps l.members) l.initial.keeper l.keeper l.initial.store l.store) l.checked (shown (g.R.Source.left l.reader) (g.R.Source.failures l.reader)) l.count

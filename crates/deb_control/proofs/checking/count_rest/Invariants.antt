use Rattle.deb_control.proofs.Common.{◌≡◌, ◌+◌, Ok, ⊤, checked_state, ReadsOn, shown}
use Rattle.deb_control.proofs.checking.count_rest.Given as goal

abbrev pub invariant-loop-count : goal.invariant-loop-count
invariant-loop-count g l = record {
  reads : ReadsOn {T = ⊤} l.initial.checked (shown (g.R.Source.left l.initial.reader) (g.R.Source.failures l.initial.reader)) (Ok tt) l.checked (shown (g.R.Source.left l.reader) (g.R.Source.failures l.reader));
  count : (checked_state l.checked).count ≡ (checked_state l.initial.checked).count + l.count;
}

use Rattle.std.proofs.Common.{◌≡◌, ℕ, List, None, Some}
use Rattle.deb_control.specs.GivenRefusals.{failure_of}
use Rattle.debctl_ffi.proofs.RefusalsSoFar.{HasLines}
use Rattle.debctl_ffi.proofs.read_refusals.read_explanations.Given as goal

abbrev pub invariant-loop : goal.invariant-loop
invariant-loop g l = record {
  sound : failure_of l.refusals ≡ None;
  reads : g.R.Source.failures l.reader ≡ g.R.Source.failures l.initial.reader;
  text : (text : List ℕ) → g.R.Source.left l.initial.reader ≡ Some text → HasLines l.fn.doc text l.refusals (g.R.Source.left l.reader) l.first l.lines.items;
}

-- The lines so far are there, and the others are to come.
use Rattle.std.proofs.Common.{◌≡◌, ◌≤◌, ◌+◌, ◌-◌, ◌++◌, length, drop}
use Rattle.deb_diff.specs.Values.{marked}
use Rattle.deb_diff.proofs.values.append_marked.Given as goal

abbrev pub invariant-loop-start : goal.invariant-loop-start
invariant-loop-start l = record {
  bound : l.start ≤ length l.text + 1;
  lines : l.out.items ++ marked l.mark (drop l.start l.text) ≡ l.initial.out.items ++ marked l.mark l.text;
}

abbrev pub decreases-loop-start : goal.decreases-loop-start
decreases-loop-start l = length l.text - l.start

-- The lines so far are in runs.
use Rattle.std.proofs.Common.{◌≡◌, ◌≤◌, ◌-◌, ◌++◌, drop, length}
use Rattle.deb_sort.specs.VersionLines.{lines_of_runs, texts_of}
use Rattle.deb_sort.proofs.equal_lines.join_equal.Given as goal

abbrev pub invariant-loop-at : goal.invariant-loop-at
invariant-loop-at l = record {
  whole : lines_of_runs l.runs.items ++ texts_of (drop l.at l.lines) ≡ texts_of l.lines;
  within : l.at ≤ length l.lines;
}

abbrev pub decreases-loop-at : goal.decreases-loop-at
decreases-loop-at l = length l.lines - l.at

use Rattle.std.proofs.Common.{◌-◌, ◌≤◌, length, take}
use Rattle.debctl_ffi.specs.Blanks.{AreBlankLines}
use Rattle.debctl_ffi.proofs.blank_lines.blank_lines.Given as goal

-- the bytes so far are blank lines
abbrev pub invariant-loop-length : goal.invariant-loop-length
invariant-loop-length l = record {
  blank : AreBlankLines (take l.bytes l.text) l.lines (l.bytes - l.lines);
  within : l.bytes ≤ length l.text;
  few : l.lines ≤ l.bytes;
}

abbrev pub decreases-loop-length : goal.decreases-loop-length
decreases-loop-length l = length l.text - l.bytes

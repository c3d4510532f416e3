use Rattle.std.proofs.Common.{◌≡◌, ◌-◌, ◌≤◌, ◌++◌, length, take}
use Rattle.debctl_ffi.specs.Blanks.{blank_text_from}
use Rattle.debctl_ffi.proofs.blank_lines.BlankText.take.Given as goal

abbrev pub invariant-loop-at : goal.invariant-loop-at
invariant-loop-at l = record {
  taken : blank_text_from l.initial.self.first l.initial.self.lines l.initial.self.spaces ≡ take l.at l.buffer ++ blank_text_from l.self.first l.self.lines l.self.spaces;
  within : l.at ≤ length l.buffer;
  none : l.at ≡ 0 → l.self.lines ≡ l.initial.self.lines;
}

abbrev pub decreases-loop-at : goal.decreases-loop-at
decreases-loop-at l = length l.buffer - l.at

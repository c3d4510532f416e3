use Rattle.std.proofs.Common.{◌≡◌, ◌-◌, ◌≤◌, ◌++◌, length, replicate, take}
use Rattle.debctl_ffi.specs.LongLines.{line_byte}
use Rattle.debctl_ffi.proofs.long_line.CountedBytes.take.Given as goal

abbrev pub invariant-loop-at : goal.invariant-loop-at
invariant-loop-at l = record {
  taken : replicate l.initial.self.count line_byte ≡ take l.at l.buffer ++ replicate l.self.count line_byte;
  within : l.at ≤ length l.buffer;
  none : l.at ≡ 0 → l.self.count ≡ l.initial.self.count;
}

abbrev pub decreases-loop-at : goal.decreases-loop-at
decreases-loop-at l = length l.buffer - l.at

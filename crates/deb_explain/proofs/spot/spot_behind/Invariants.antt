use Rattle.std.proofs.Common.{◌≡◌, ◌+◌, ◌≤◌, drop}
use Rattle.deb_explain.specs.Texts.{spot_behind}
use Rattle.deb_explain.proofs.spot.spot_behind.Given as goal

abbrev pub invariant-loop-byte : goal.invariant-loop-byte
invariant-loop-byte l = record {
  behind : spot_behind l.spot (drop l.byte-index l.bytes) ≡ spot_behind (record { line = l.line; column = l.column }) l.bytes;
  line : l.spot.line ≤ l.line + l.byte-index;
  column : l.spot.column ≤ l.column + l.byte-index + 1;
}

use Rattle.std.proofs.Common.{◌≡◌, ◌+◌, drop}
use Rattle.deb_diff.specs.Cuts.{field_len}
use Rattle.deb_diff.proofs.cut.field_len.Given as goal

abbrev pub invariant-loop-at : goal.invariant-loop-at
invariant-loop-at l = l.at + field_len (drop l.at l.text) ≡ field_len l.text

use Rattle.std.proofs.Common.{◌≡◌, ◌-◌, ◌<◌, ◌≤◌, ◌==◌, ℕ, false, length, slice_index}
use Rattle.deb_base.specs.Bodies.{newline}
use Rattle.deb_syntax.proofs.newline.first_newline.Given as goal

-- no newline is before the offset
abbrev pub invariant-loop-at : goal.invariant-loop-at
invariant-loop-at l = record {
  within : l.at ≤ length l.text;
  none : (k : ℕ) → k < l.at → (slice_index l.text k == newline) ≡ false;
}

abbrev pub decreases-loop-at : goal.decreases-loop-at
decreases-loop-at l = length l.text - l.at

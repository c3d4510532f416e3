use Rattle.deb_control.proofs.Common.{◌≡◌, ◌≤◌, ◌-◌, length, take}
use Rattle.deb_control.proofs.name.same_front.Given as goal

abbrev pub invariant-loop-same : goal.invariant-loop-same
invariant-loop-same l = record {
  within : l.same ≤ length l.name;
  beside : l.same ≤ length l.other;
  same : take l.same l.name ≡ take l.same l.other;
}

abbrev pub decreases-loop-same : goal.decreases-loop-same
decreases-loop-same l = length l.name - l.same

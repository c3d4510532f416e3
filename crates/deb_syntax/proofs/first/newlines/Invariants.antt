use Rattle.deb_syntax.proofs.Common.{◌≡◌, ◌-◌, ◌≤◌, ◌==◌, length, take, true, list_all, newline}
use Rattle.deb_syntax.proofs.first.newlines.Given as goal

-- the bytes so far are newlines
abbrev pub invariant-loop-count : goal.invariant-loop-count
invariant-loop-count l = record {
  within : l.count ≤ length l.text;
  all : list_all (λ b. b == newline) (take l.count l.text) ≡ true;
}

abbrev pub decreases-loop-count : goal.decreases-loop-count
decreases-loop-count l = length l.text - l.count

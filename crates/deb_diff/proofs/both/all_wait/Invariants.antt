use Rattle.std.proofs.Common.{◌≡◌, true, length}
use Rattle.std.specs.List.{list_all}
use Rattle.deb_diff.proofs.both.all_wait.Given as goal

abbrev pub invariant-loop : goal.invariant-loop
invariant-loop l = record {
  count : length l.waits.items ≡ l.counter;
  all : list_all (λ wait. wait) l.waits.items ≡ true;
}

use Rattle.std.proofs.Common.{◌≡◌, true, take}
use Rattle.std.specs.List.{list_all}
use Rattle.deb_solve.specs.Health.{is_met}
use Rattle.deb_solve.specs.Marks.{marked}
use Rattle.deb_solve.proofs.health.all_met.Given as goal

abbrev pub invariant-loop-group : goal.invariant-loop-group
invariant-loop-group l =
    list_all (is_met l.universe (marked l.set)) (take l.group-index l.groups) ≡ true

use Rattle.std.proofs.Common.{◌≡◌, true, take}
use Rattle.std.specs.List.{list_all}
use Rattle.deb_solve.specs.Health.{fits}
use Rattle.deb_solve.specs.Marks.{marked}
use Rattle.deb_solve.proofs.health.all_fit.Given as goal

abbrev pub invariant-loop-member : goal.invariant-loop-member
invariant-loop-member l =
    list_all (fits l.universe (marked l.set)) (take l.member-index l.members) ≡ true

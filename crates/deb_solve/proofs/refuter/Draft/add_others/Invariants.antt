use Rattle.std.proofs.Common.{take}
use Rattle.deb_solve.specs.Refuting.{AddsOthers}
use Rattle.deb_solve.proofs.refuter.Draft.add_others.Given as goal

abbrev pub invariant-loop-number : goal.invariant-loop-number
invariant-loop-number l =
    AddsOthers l.initial.self.list.items l.self.list.items (take l.number-index l.others) l.candidate

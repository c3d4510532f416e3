use Rattle.std.proofs.Common.{◌≡◌, true, take}
use Rattle.std.specs.List.{list_all}
use Rattle.deb_solve.specs.Reasons.{is_fact}
use Rattle.deb_solve.proofs.facts.are_facts.Given as goal

abbrev pub invariant-loop-fact : goal.invariant-loop-fact
invariant-loop-fact l = list_all (is_fact l.universe) (take l.fact-index l.facts) ≡ true

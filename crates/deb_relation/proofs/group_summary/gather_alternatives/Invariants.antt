use Rattle.std.proofs.Common.{length}
use Rattle.deb_relation.specs.Summaries.{summary_with}
use Rattle.deb_relation.specs.Views.{alternative_of}
use Rattle.deb_relation.proofs.SummedGroups.{IsSummed}
use Rattle.deb_relation.proofs.group_summary.gather_alternatives.Given as goal

abbrev pub invariant-loop-joined : goal.invariant-loop-joined
invariant-loop-joined l = IsSummed (alternative_of l.first) l.fn.text (summary_with l.joined.items l.has_two l.only_equals) l.rest

abbrev pub decreases-loop-joined : goal.decreases-loop-joined
decreases-loop-joined l = length l.rest

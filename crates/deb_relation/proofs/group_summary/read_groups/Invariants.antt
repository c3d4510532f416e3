use Rattle.std.proofs.Common.{[], length, map}
use Rattle.deb_relation.specs.Grammar.{set_of}
use Rattle.deb_relation.specs.Summaries.{next_summary, put_summary, summary_key}
use Rattle.deb_relation.specs.SummaryViews.{told_of}
use Rattle.deb_relation.proofs.Gathering.{IsRead}
use Rattle.deb_relation.proofs.group_summary.read_groups.Given as goal

abbrev pub invariant-loop-groups : goal.invariant-loop-groups
invariant-loop-groups l = IsRead next_summary put_summary [] l.fn.text (set_of summary_key (map told_of l.groups.items)) l.rest

abbrev pub decreases-loop-groups : goal.decreases-loop-groups
decreases-loop-groups l = length l.rest

use Rattle.std.proofs.Common.{codes}
use Rattle.deb_relation.specs.Summaries.{summary_key}
use Rattle.deb_relation.specs.SummaryViews.{told_of}
use Rattle.deb_relation.proofs.Joining.{IsAppended}
use Rattle.deb_relation.proofs.relation_text.append_more_texts.Given as goal

abbrev pub invariant-loop-group : goal.invariant-loop-group
invariant-loop-group l = IsAppended (codes ", ") summary_key told_of l.groups l.initial.out.items l.out.items l.group-index

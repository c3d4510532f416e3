use Rattle.std.proofs.Common.{codes}
use Rattle.deb_relation.specs.Summaries.{summary_key}
use Rattle.deb_relation.specs.SummaryViews.{told_of}
use Rattle.deb_relation.proofs.Joining.{appended-end}
use Rattle.deb_relation.proofs.relation_text.append_more_texts.Goals as goal

pub returns : goal.returns
returns c = appended-end (codes ", ") summary_key told_of c.args.groups.now c.args.out.now.items c.loop-group.out.items c.loop-group.group-index c.loop-group-test.false c.loop-group.invariant

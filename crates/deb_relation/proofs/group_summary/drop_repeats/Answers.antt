use Rattle.std.proofs.Common.{map, ap, ◌∙◌}
use Rattle.deb_relation.specs.Grammar.{set_of}
use Rattle.deb_relation.specs.Summaries.{summary_key}
use Rattle.deb_relation.specs.SummaryViews.{told_of}
use Rattle.deb_relation.proofs.SetLemmas.{set_again}
use Rattle.deb_relation.proofs.group_summary.drop_repeats.Goals as goal

pub returns-in_ok-sort_groups : goal.returns-in_ok-sort_groups
returns-in_ok-sort_groups c = ap (set_of summary_key) c.in_ok-sort_groups.ensures ∙ set_again summary_key (map told_of c.args.groups.now.items)

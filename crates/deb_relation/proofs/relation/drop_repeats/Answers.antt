use Rattle.std.proofs.Common.{map, ap, ◌∙◌}
use Rattle.deb_relation.specs.Grammar.{set_of}
use Rattle.deb_relation.specs.Groups.{group_of}
use Rattle.deb_relation.specs.Texts.{group_text}
use Rattle.deb_relation.proofs.SetLemmas.{set_again}
use Rattle.deb_relation.proofs.relation.drop_repeats.Goals as goal

pub returns-in_ok-sort_groups : goal.returns-in_ok-sort_groups
returns-in_ok-sort_groups c = ap (set_of group_text) c.in_ok-sort_groups.ensures ∙ set_again group_text (map group_of c.args.groups.now.items)

use Rattle.std.proofs.Common.{map, ap, ◌∙◌}
use Rattle.deb_relation.specs.Formulas.{profiles_of}
use Rattle.deb_relation.specs.Grammar.{set_of}
use Rattle.deb_relation.specs.Texts.{restrictions_text}
use Rattle.deb_relation.proofs.SetLemmas.{set_again}
use Rattle.deb_relation.proofs.formula.drop_lists.Goals as goal

pub returns-in_ok-sort_lists : goal.returns-in_ok-sort_lists
returns-in_ok-sort_lists c = ap (set_of restrictions_text) c.in_ok-sort_lists.ensures ∙ set_again restrictions_text (map profiles_of c.args.lists.now.items)

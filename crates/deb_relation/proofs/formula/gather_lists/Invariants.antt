use Rattle.std.proofs.Common.{[], length, map}
use Rattle.deb_relation.specs.Formulas.{profiles_of}
use Rattle.deb_relation.specs.Grammar.{set_of}
use Rattle.deb_relation.specs.Reading.{next_restrictions}
use Rattle.deb_relation.specs.Sets.{insert_by}
use Rattle.deb_relation.specs.Texts.{restrictions_text}
use Rattle.deb_relation.proofs.Gathering.{IsRead}
use Rattle.deb_relation.proofs.formula.gather_lists.Given as goal

abbrev pub invariant-loop-lists : goal.invariant-loop-lists
invariant-loop-lists l = IsRead next_restrictions (insert_by restrictions_text) [] l.fn.text (set_of restrictions_text (map profiles_of l.lists.items)) l.rest

abbrev pub decreases-loop-lists : goal.decreases-loop-lists
decreases-loop-lists l = length l.rest

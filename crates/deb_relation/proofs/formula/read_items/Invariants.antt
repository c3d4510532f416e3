use Rattle.std.proofs.Common.{[], length}
use Rattle.deb_relation.specs.Grammar.{set_of}
use Rattle.deb_relation.specs.Reading.{next_restriction}
use Rattle.deb_relation.specs.Sets.{insert_by}
use Rattle.deb_relation.specs.Texts.{item_text}
use Rattle.deb_relation.specs.Views.{items_of}
use Rattle.deb_relation.proofs.Gathering.{IsRead}
use Rattle.deb_relation.proofs.formula.read_items.Given as goal

abbrev pub invariant-loop-items : goal.invariant-loop-items
invariant-loop-items l = IsRead next_restriction (insert_by item_text) [] l.fn.text (set_of item_text (items_of l.items.items)) l.rest

abbrev pub decreases-loop-items : goal.decreases-loop-items
decreases-loop-items l = length l.rest

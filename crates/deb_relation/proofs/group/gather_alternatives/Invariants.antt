use Rattle.std.proofs.Common.{length, map}
use Rattle.deb_relation.specs.Reading.{append, next_alternative}
use Rattle.deb_relation.specs.Views.{alternative_of}
use Rattle.deb_relation.proofs.Gathering.{IsRead}
use Rattle.deb_relation.proofs.group.gather_alternatives.Given as goal

abbrev pub invariant-loop-alternatives : goal.invariant-loop-alternatives
invariant-loop-alternatives l = IsRead next_alternative append (map alternative_of l.fn.alternatives.items) l.fn.text (map alternative_of l.alternatives.items) l.rest

abbrev pub decreases-loop-alternatives : goal.decreases-loop-alternatives
decreases-loop-alternatives l = length l.rest

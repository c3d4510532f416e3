use Rattle.std.proofs.Common.{[], length}
use Rattle.deb_relation.specs.Reading.{append, next_architecture}
use Rattle.deb_relation.specs.Views.{names_of}
use Rattle.deb_relation.proofs.Gathering.{IsRead}
use Rattle.deb_relation.proofs.architectures.gather_names.Given as goal

abbrev pub invariant-loop-names : goal.invariant-loop-names
invariant-loop-names l = IsRead (next_architecture l.negated) append [] l.fn.text (names_of l.names.items) l.rest

abbrev pub decreases-loop-names : goal.decreases-loop-names
decreases-loop-names l = length l.rest

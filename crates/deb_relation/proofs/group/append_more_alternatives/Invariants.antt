use Rattle.std.proofs.Common.{codes}
use Rattle.deb_relation.specs.Texts.{alternative_text}
use Rattle.deb_relation.specs.Views.{alternative_of}
use Rattle.deb_relation.proofs.Joining.{IsAppended}
use Rattle.deb_relation.proofs.group.append_more_alternatives.Given as goal

abbrev pub invariant-loop-alternative : goal.invariant-loop-alternative
invariant-loop-alternative l = IsAppended (codes " | ") alternative_text alternative_of l.alternatives l.initial.out.items l.out.items l.alternative-index

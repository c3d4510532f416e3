use Rattle.std.proofs.Common.{codes}
use Rattle.deb_relation.specs.Texts.{signed_text}
use Rattle.deb_relation.specs.Views.{name_key}
use Rattle.deb_relation.proofs.Joining.{IsAppended}
use Rattle.deb_relation.proofs.architectures.append_more_names.Given as goal

abbrev pub invariant-loop-name : goal.invariant-loop-name
invariant-loop-name l = IsAppended (codes " ") (signed_text l.negated) name_key l.names l.initial.out.items l.out.items l.name-index

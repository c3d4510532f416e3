use Rattle.std.proofs.Common.{codes}
use Rattle.deb_relation.specs.Texts.{signed_text}
use Rattle.deb_relation.specs.Views.{name_key}
use Rattle.deb_relation.proofs.Joining.{appended-end}
use Rattle.deb_relation.proofs.architectures.append_more_names.Goals as goal

pub returns : goal.returns
returns c = appended-end (codes " ") (signed_text c.args.negated) name_key c.args.names.now c.args.out.now.items c.loop-name.out.items c.loop-name.name-index c.loop-name-test.false c.loop-name.invariant

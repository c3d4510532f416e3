use Rattle.std.proofs.Common.{codes}
use Rattle.deb_relation.specs.Texts.{alternative_text}
use Rattle.deb_relation.specs.Views.{alternative_of}
use Rattle.deb_relation.proofs.Joining.{appended-end}
use Rattle.deb_relation.proofs.group.append_more_alternatives.Goals as goal

pub returns : goal.returns
returns c = appended-end (codes " | ") alternative_text alternative_of c.args.alternatives.now c.args.out.now.items c.loop-alternative.out.items c.loop-alternative.alternative-index c.loop-alternative-test.false c.loop-alternative.invariant

use Rattle.deb_syntax.proofs.Newlines.{first_after, none_up_to}
use Rattle.deb_syntax.proofs.newline.first_newline.Goals as goal

pub returns-in-Some : goal.returns-in-Some
returns-in-Some c = first_after c.args.text.now c.loop-at.at c.loop-at.invariant.within c.loop-at.invariant.none c.in-Some.more c.in-Some.ensures

pub returns-in-None : goal.returns-in-None
returns-in-None c = none_up_to c.args.text.now c.loop-at.at c.loop-at.invariant.within c.loop-at.invariant.none c.in-None.ensures

use Rattle.deb_index.proofs.Cutting.{append_found, append_missing}
use Rattle.deb_index.proofs.cut.append_entry.Goals as goal

pub returns-in_ok-push-in-Some : goal.returns-in_ok-push-in-Some
returns-in_ok-push-in-Some c = λ group regular is. append_found c.args.text.now c.args.number _ _ _ _ c.in_ok-push-in-Some.ensures.items (c.in-Some.ensures group regular is)

pub returns-in-None : goal.returns-in-None
returns-in-None c = λ group regular is. append_missing c.args.text.now c.args.number _ _ (c.in-None.ensures group regular is)

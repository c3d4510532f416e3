use Rattle.debctl_ffi.proofs.explanation.explained.Goals as goal

pub returns-in-Ok-clause-accepted : goal.returns-in-Ok-clause-accepted
returns-in-Ok-clause-accepted c = c.in-Ok.ensures.accepted c.args.text.now c.new.ensures.left

pub returns-in-Ok-clause-refused : goal.returns-in-Ok-clause-refused
returns-in-Ok-clause-refused c = c.in-Ok.ensures.refused c.args.text.now c.new.ensures.left

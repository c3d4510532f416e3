use Rattle.debctl_ffi.proofs.SelectTexts.{adds_one}
use Rattle.debctl_ffi.proofs.select.add_condition.Goals as goal

pub returns-in-Ok-with-clause-ok : goal.returns-in-Ok-with-clause-ok
returns-in-Ok-with-clause-ok c = λ negated texts has.
    let read = c.in-Ok.ensures.ok in
    adds_one c.args.kind negated texts c.args.text.now read.meaning c.args.selection _ has read.spells
    (c.in-Ok-with.ensures c.args.kind (record { conditions = has.conditions; negated = negated }) read.meaning has.has read.is)

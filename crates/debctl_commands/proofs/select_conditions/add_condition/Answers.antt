use Rattle.debctl_commands.proofs.select_conditions.add_condition.Goals as goal

pub returns-in-Ok-with-clause-ok : goal.returns-in-Ok-with-clause-ok
returns-in-Ok-with-clause-ok c = λ meaning has.
    let read = c.in-Ok.ensures.ok in
    record { added = read.meaning; spelled = read.spells; has = c.in-Ok-with.ensures c.args.doc meaning read.meaning has read.is }

use Rattle.debctl_commands.proofs.query_job.parse_question.Goals as goal

pub returns-clause-ok : goal.returns-clause-ok
returns-clause-ok c =
    rw (c.as_bytes.ensures.value, c.deref.ensures.value, c.in_ok-names.ensures) at c.parse.ensures.ok

pub returns-clause-fault : goal.returns-clause-fault
returns-clause-fault c =
    rw (c.as_bytes.ensures.value, c.deref.ensures.value, c.in_ok-names.ensures) at c.parse.ensures.fault

use Rattle.debctl_commands.proofs.select_conditions.put_condition_line.Goals as goal

pub returns-clause-written : goal.returns-clause-written
returns-clause-written g c =
    rw (c.as_bytes.ensures.value, c.format.ensures.text, c.as_bytes-2.ensures.value, c.format-2.ensures.text, c.column_of.ensures, c.as_bytes-3.ensures.value, c.text.ensures) at c.put_pieces.ensures.written

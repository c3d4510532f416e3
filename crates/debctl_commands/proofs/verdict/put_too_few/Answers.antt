use Rattle.std.proofs.Common.{◌∙◌}
use Rattle.debctl_commands.proofs.verdict.put_too_few.Goals as goal

pub returns-clause-written : goal.returns-clause-written
returns-clause-written g c =
    rw (c.as_bytes.ensures.value ∙ c.format.ensures.text, c.as_bytes-2.ensures.value ∙ c.format-2.ensures.text) at c.put_pieces.ensures.written

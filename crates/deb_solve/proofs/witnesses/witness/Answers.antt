use Rattle.std.proofs.Common.{◌∙◌}
use Rattle.deb_solve.proofs.witnesses.witness.Goals as goal

pub returns : goal.returns
returns c = rw (c.prune_all.ensures ∙ c.in_ok-known.ensures) at c.set_or_verdicts.ensures

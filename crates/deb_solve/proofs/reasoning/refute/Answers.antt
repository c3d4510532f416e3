use Rattle.std.proofs.Common.{◌∙◌}
use Rattle.deb_solve.proofs.reasoning.refute.Goals as goal

pub returns : goal.returns
returns c = rw (c.search_for_first.ensures ∙ c.in_ok-known.ensures) at c.is_out.ensures.out

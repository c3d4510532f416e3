use Rattle.deb_solve.proofs.verdict.accept.Goals as goal

pub accept_all-requires-clause-is_healthy : goal.accept_all-requires-clause-is_healthy
accept_all-requires-clause-is_healthy c = c.is_healthy-healthy.ensures.yes c.if-healthy.true

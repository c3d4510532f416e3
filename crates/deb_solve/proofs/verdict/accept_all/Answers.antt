use Rattle.deb_solve.proofs.Verdicts.{in_healthy}
use Rattle.deb_solve.proofs.verdict.accept_all.Goals as goal

pub allow-requires-clause-installable : goal.allow-requires-clause-installable
allow-requires-clause-installable c =
    in_healthy c.args.universe.now c.args.members.now c.loop-member.member-index c.loop-member-test.true c.requires.is_healthy

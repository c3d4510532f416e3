use Rattle.std.proofs.Common.{subst}
use Rattle.deb_solve.specs.Verdicts.{AreRefusals}
use Rattle.deb_solve.proofs.witnesses.set_or_verdicts.Goals as goal

pub returns-in-Some : goal.returns-in-Some
returns-in-Some c = rw c.in-Some.is at c.in_ok-members.ensures.set

pub returns-in_ok-refusals-in-None : goal.returns-in_ok-refusals-in-None
returns-in_ok-refusals-in-None c =
    subst (λ u. AreRefusals u c.in_ok-refusals-in-None.field-0.items) c.in_ok-members.ensures.same c.in_ok-refusals-in-None.ensures

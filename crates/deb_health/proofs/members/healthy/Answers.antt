use Rattle.std.proofs.Common.{arith}
use Rattle.deb_health.proofs.members.healthy.Goals as goal

pub returns-in_err-index-clause-reads_at_most : goal.returns-in_err-index-clause-reads_at_most
returns-in_err-index-clause-reads_at_most g c = λ text told. record { rest = text; told = told; few = omega arith }

pub returns-clause-ok : goal.returns-clause-ok
returns-clause-ok g c = rw c.in_ok-index.ensures.packages at c.write_in_itself.ensures.ok

pub returns-clause-stopped : goal.returns-clause-stopped
returns-clause-stopped g c = rw c.in_ok-index.ensures.packages at c.write_in_itself.ensures.stopped

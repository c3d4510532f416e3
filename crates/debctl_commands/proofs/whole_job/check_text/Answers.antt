use Rattle.debctl_commands.proofs.WholeReports.{unfailed}
use Rattle.debctl_commands.proofs.whole_job.check_text.Goals as goal

pub returns-clause-fault : goal.returns-clause-fault
returns-clause-fault c = unfailed c.check.result c.check.ensures.counts_read_failure c.check.ensures.fault

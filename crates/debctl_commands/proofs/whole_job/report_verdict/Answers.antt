use Rattle.debctl_commands.proofs.whole_job.report_verdict.Goals as goal

pub returns-in-NoNewline : goal.returns-in-NoNewline
returns-in-NoNewline g c = rw c.in-NoNewline.is (rw c.in-NoNewline.is at c.report_lack.ensures)

pub returns-in-TooFew : goal.returns-in-TooFew
returns-in-TooFew g c = rw c.in-TooFew.is (rw c.in-TooFew.is at c.report_lack-in-TooFew.ensures)

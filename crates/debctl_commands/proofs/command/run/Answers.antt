use Rattle.debctl_commands.specs.Running.{promise_of}
use Rattle.debctl_commands.proofs.Promised.{done, refused, says_no, three_if_unreported}
use Rattle.debctl_commands.proofs.command.run.Goals as goal

pub returns-clause-done : goal.returns-clause-done
returns-clause-done g c = done (promise_of c.args.job.now) _ _ _ _ c.run_job.result c.run_job.ensures.reports_answer

pub returns-clause-no : goal.returns-clause-no
returns-clause-no g c = says_no (promise_of c.args.job.now) _ _ _ _ c.run_job.result c.run_job.ensures.reports_answer

pub returns-clause-refused : goal.returns-clause-refused
returns-clause-refused g c = refused (promise_of c.args.job.now) _ _ _ _ c.run_job.result c.run_job.ensures.reports_answer

pub returns-clause-status_3_if_err_failed : goal.returns-clause-status_3_if_err_failed
returns-clause-status_3_if_err_failed g c = three_if_unreported (promise_of c.args.job.now) _ _ _ _ c.run_job.result c.run_job.ensures.reports_answer

use Rattle.std.proofs.Common.{Ok, Err, refl}
use Rattle.debctl_commands.proofs.select_job.report_files.Goals as goal

pub returns-in-Ok : goal.returns-in-Ok
returns-in-Ok g c = λ asked is. record { between = c.select_all.new.err; ends = (Ok c.in-Ok.tally, c.in-Ok.ensures asked is, (c.tally_status.ensures, refl)) }

pub returns-in-Err : goal.returns-in-Err
returns-in-Err g c = λ asked is. record { between = c.select_all.new.err; ends = (Err c.in-Err.fault, c.in-Err.ensures asked is, c.report_file_fault.ensures) }

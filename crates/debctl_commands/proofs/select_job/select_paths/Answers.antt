use Rattle.std.proofs.Common.{refl}
use Rattle.debctl_commands.specs.SelectJob.{so_far}
use Rattle.debctl_commands.proofs.SelectFiles.{no_path}
use Rattle.debctl_commands.proofs.select_job.select_paths.Goals as goal

pub returns-in-Ok : goal.returns-in-Ok
returns-in-Ok g c = λ asked is.
    rw (no_path c.args.paths.now c.if-not-is_empty.ensures)
    (c.select_file.new.files, so_far c.in-Ok.tally c.select_file.new.out c.select_file.new.err, rw c.no_file.ensures at (c.in-Ok.ensures asked is), (refl, refl))

use Rattle.std.proofs.Common.{refl}
use Rattle.debctl_commands.specs.SelectAcceptedJob.{read_so_far}
use Rattle.debctl_commands.proofs.SelectFiles.{no_path}
use Rattle.debctl_commands.proofs.select_accepted_job.accept_paths.Goals as goal

pub returns-in-Ok : goal.returns-in-Ok
returns-in-Ok g c = λ asked is.
    rw (no_path c.args.paths.now c.if-not-is_empty.ensures)
    (c.accept_file.new.files, read_so_far c.in-Ok.total c.accept_file.new.out c.accept_file.new.err, rw c.nothing_read.ensures at (c.in-Ok.ensures asked is), (refl, refl))

use Rattle.std.proofs.Common.{◌≡◌, length, rules}
use Rattle.deb_index.specs.Indexes.{packages_of}
use Rattle.debctl_commands.proofs.UnmetAnswers.{no_names}
use Rattle.debctl_commands.proofs.unmet_job.leave_out.Goals as goal

pub returns-then-is_empty : goal.returns-then-is_empty
returns-then-is_empty c =
    let none : length c.args.names.now ≡ 0 = search rules in
    no_names c.args.names.now (packages_of c.args.index) none

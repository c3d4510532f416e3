use Rattle.std.proofs.Common.{[], subst}
use Rattle.debctl_args.specs.Commands.{program_of, IsShaped}
use Rattle.debctl_args.proofs.Shapes.{shaped_program}
use Rattle.debctl_args.proofs.commands.debctl_command.Goals as goal

pub returns : goal.returns
returns c =
    let files = subst (λ rows. IsShaped (program_of rows) c.in_ok-command.command) c.file_commands.ensures (c.in_ok-command.ensures [] c.bare_command.ensures) in
    shaped_program c.package_commands.result.now c.in_ok-command.command c.with_commands-2.result c.package_commands.ensures files c.with_commands-2.ensures

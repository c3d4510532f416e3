use Rattle.std.proofs.Common.{◌++◌, List, map, take}
use Rattle.debctl_args.specs.Commands.{CommandRow, program_of, row_in, IsShaped}
use Rattle.debctl_args.proofs.commands.with_commands.Given as goal

abbrev pub invariant-loop-row : goal.invariant-loop-row
invariant-loop-row l =
    (before : List CommandRow) → IsShaped (program_of before) l.initial.command
    → IsShaped (program_of (before ++ map row_in (take l.row-index l.rows))) l.command

use Rattle.std.proofs.Common.{map, take}
use Rattle.debctl_args.specs.Commands.{app_with, rule_in, IsShaped}
use Rattle.debctl_args.proofs.commands.command_of.Given as goal

abbrev pub invariant-loop-argument : goal.invariant-loop-argument
invariant-loop-argument l =
    IsShaped (app_with l.row.name.now (map rule_in (take l.argument-index l.argument-items))) l.command

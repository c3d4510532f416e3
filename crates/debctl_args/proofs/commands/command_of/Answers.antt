use Rattle.debctl_args.proofs.Shapes.{shaped_argument}
use Rattle.debctl_args.proofs.commands.command_of.Goals as goal

pub loop-argument-preserved : goal.loop-argument-preserved
loop-argument-preserved c =
    shaped_argument c.args.row.now.name.now c.args.row.now.takes.now c.loop-argument.argument-index _ _ _ _ c.loop-argument-test.true c.loop-argument.invariant c.arg_of.ensures.rule c.arg_of.ensures.local c.in_ok-command.ensures

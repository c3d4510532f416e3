use Rattle.debctl_args.proofs.Shapes.{shaped_command}
use Rattle.debctl_args.proofs.commands.with_commands.Goals as goal

pub loop-row-preserved : goal.loop-row-preserved
loop-row-preserved c before start =
    shaped_command before c.args.rows.now c.loop-row.row-index _ _ _ _ c.loop-row-test.true (c.loop-row.invariant before start) c.in_ok-below.ensures c.in_ok-command.ensures

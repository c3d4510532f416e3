use Rattle.debctl_commands.proofs.build_job.run_with.Goals as goal

pub returns-clause-ends : goal.returns-clause-ends
returns-clause-ends g c =
    let e = c.buildable-answer.ensures in (
      c.buildable-answer.result,
      record {
        ok = e.ok c.args.asking.now.members;
        refused = e.refused;
        stopped = e.stopped c.args.asking.now.members;
        unwritten = e.unwritten;
        refusal = e.refusal;
        reads = e.counts_read_failure;
        writes = e.counts_write_failure;
      },
      c.report_tried.ensures,
    )

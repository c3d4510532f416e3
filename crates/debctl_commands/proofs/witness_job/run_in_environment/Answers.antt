use Rattle.debctl_commands.proofs.witness_job.run_in_environment.Goals as goal

pub returns-clause-ends : goal.returns-clause-ends
returns-clause-ends g c =
    let e = c.witness-answer.ensures in (
      c.witness-answer.result,
      record {
        ok = e.ok;
        refused = e.refused;
        stopped = e.stopped;
        unwritten = e.unwritten;
        refusal = e.refusal;
        reads = e.counts_read_failure;
        writes = e.counts_write_failure;
      },
      c.report_sought.ensures,
    )

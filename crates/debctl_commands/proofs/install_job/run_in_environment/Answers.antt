use Rattle.debctl_commands.proofs.install_job.run_in_environment.Goals as goal

pub returns-clause-ends : goal.returns-clause-ends
returns-clause-ends g c =
    let e = c.installable-answer.ensures in (
      c.installable-answer.result,
      record {
        ok = e.ok;
        refused = e.refused;
        stopped = e.stopped;
        unwritten = e.unwritten;
        refusal = e.refusal;
        reads = e.counts_read_failure;
        writes = e.counts_write_failure;
      },
      c.report_lines.ensures,
    )

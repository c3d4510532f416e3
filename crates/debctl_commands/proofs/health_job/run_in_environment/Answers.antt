use Rattle.std.proofs.Common.{subst}
use Rattle.deb_health.specs.Health.{asks_healthy}
use Rattle.deb_relation.specs.Environments.{environment_of}
use Rattle.debctl_commands.specs.UnmetJob.{AsksOwn}
use Rattle.debctl_commands.proofs.health_job.run_in_environment.Goals as goal

pub returns-clause-ends : goal.returns-clause-ends
returns-clause-ends g c =
    let e = c.healthy-answer.ensures in
    let answer = c.healthy-answer.result in (
      answer,
      subst
          (λ strength. AsksOwn (asks_healthy c.args.set.members strength (environment_of c.args.environment.now))
          (g.R.Source.left c.args.first.now) (g.R.Source.failures c.args.first.now) (g.R.Source.failures c.healthy-answer.new.reader)
          g.W.Sink.held g.W.Sink.failures c.args.out.now c.healthy-answer.new.writer answer)
          c.fields_tried-strength.ensures
          (record {
            ok = e.ok;
            refused = e.refused;
            stopped = e.stopped;
            unwritten = e.unwritten;
            refusal = e.refusal;
            reads = e.counts_read_failure;
            writes = e.counts_write_failure;
          }),
      c.report_lines.ensures,
    )

use Rattle.std.proofs.Common.{Ok, Err, refl, ap, ◌∙◌}
use Rattle.std.specs.Prelude.{⊤}
use Rattle.std.proofs.lemmas.Result.{err_from_is_err_and}
use Rattle.deb_base.specs.Devices.{read_failures_after, write_failures_after}
use Rattle.deb_base.specs.declared.fault.Fault.TheVariants.{Memory}
use Rattle.deb_control.specs.declared.summary.Summary.{Summary}
use Rattle.debctl_commands.specs.AuditAllJob.{whole}
use Rattle.debctl_commands.proofs.AuditAllReports.{at_end, at_fault, at_many, cut_off, ended, more_so_far, none_so_far, unended}
use Rattle.debctl_commands.proofs.audit_all_job.report_file.Goals as goal

pub loop-init : goal.loop-init
loop-init g c = record {
  sound = c.new-refusals.ensures.sound;
  reads = refl;
  writes = refl;
  so_far = none_so_far c.args.options.doc c.args.options.end c.args.path.now (g.R.Source.left c.args.reader.now) (g.W.Sink.held c.args.out.now) c.new-refusals.result c.new-refusals.ensures.starts;
}

pub loop-preserved : goal.loop-preserved
loop-preserved g c =
    let gives = rw c.in-Ok-Some.field-0-is at c.in-Ok-Some.ensures.gives in
    let written = c.in_ok-put_fault_record-in-Ok-Some.ensures in
    record {
      sound = c.in-Ok-Some.ensures.sound;
      reads = c.in-Ok-Some.ensures.counts_read_failure c.loop.invariant.sound ∙ c.loop.invariant.reads;
      writes = written.counts_failure ∙ c.loop.invariant.writes;
      so_far = more_so_far c.args.options.doc c.args.options.end c.args.path.now (g.R.Source.left c.args.reader.now) (g.W.Sink.held c.args.out.now) c.loop.refusals (g.R.Source.left c.loop.reader) (g.W.Sink.held c.loop.out) c.loop.status c.loop.invariant.so_far c.next.new.self (g.R.Source.left c.next.new.reader)
          c.in-Ok-Some.refusal gives (g.W.Sink.held c.put_fault_record.new.out) written.written;
    }

pub returns-in_err-put_fault_record-in-Ok-Some-clause-reports : goal.returns-in_err-put_fault_record-in-Ok-Some-clause-reports
returns-in_err-put_fault_record-in-Ok-Some-clause-reports g c =
    let p = err_from_is_err_and c.from_residual.result c.from_residual.ensures.1 in
    let gives = rw c.in-Ok-Some.field-0-is at c.in-Ok-Some.ensures.gives in
    let written = c.in_err-put_fault_record-in-Ok-Some.ensures in
    let fault = c.in_err-put_fault_record-in-Ok-Some.field-0.0 in
    rw (p.1, p.2)
    (cut_off c.args.options.doc c.args.options.end c.args.path.now (g.R.Source.left c.args.reader.now) (g.W.Sink.held c.args.out.now) c.loop.refusals (g.R.Source.left c.loop.reader) (g.W.Sink.held c.loop.out) c.loop.status c.loop.invariant.so_far c.next.new.self (g.R.Source.left c.next.new.reader)
    c.in-Ok-Some.refusal gives c.in-Ok-Some.ensures.reads_at_most (g.R.Source.failures c.args.reader.now) (g.R.Source.failures c.next.new.reader) (c.in-Ok-Some.ensures.counts_read_failure c.loop.invariant.sound ∙ c.loop.invariant.reads)
    (g.W.Sink.held c.put_fault_record.new.out) written.written fault written.fault (g.W.Sink.failures c.args.out.now) (g.W.Sink.failures c.put_fault_record.new.out) (written.counts_failure ∙ ap (λ m. write_failures_after {T = ⊤} m (Err fault)) c.loop.invariant.writes))

pub returns-in_err-put_total-in-Ok-None-clause-reports : goal.returns-in_err-put_total-in-Ok-None-clause-reports
returns-in_err-put_total-in-Ok-None-clause-reports g c =
    let p = err_from_is_err_and c.from_residual-in_err-put_total-in-Ok-None.result c.from_residual-in_err-put_total-in-Ok-None.ensures.1 in
    let gives = rw c.in-Ok-None.field-0-is at c.in-Ok-None.ensures.gives in
    let so_far = c.loop.invariant.so_far in
    let written = c.in_err-put_total-in-Ok-None.ensures in
    let fault = c.in_err-put_total-in-Ok-None.field-0.0 in
    rw (p.1, p.2) (
      whole so_far.done (Ok c.summary.result),
      at_end c.args.options.doc c.args.options.end c.args.path.now (g.R.Source.left c.args.reader.now) (g.W.Sink.held c.args.out.now) c.loop.refusals (g.R.Source.left c.loop.reader) (g.W.Sink.held c.loop.out) c.loop.status so_far c.next.new.self (g.R.Source.left c.next.new.reader)
          c.summary.result c.summary.ensures gives c.in-Ok-None.ensures.reads_at_most (g.R.Source.failures c.args.reader.now) (g.R.Source.failures c.next.new.reader) (c.in-Ok-None.ensures.counts_read_failure c.loop.invariant.sound ∙ c.loop.invariant.reads),
      unended c.args.options.doc c.args.options.end c.args.path.now (g.R.Source.left c.args.reader.now) (g.W.Sink.held c.args.out.now) so_far.done (g.W.Sink.held c.loop.out) so_far.written (Ok c.summary.result)
          (g.W.Sink.held c.put_total.new.out) written.written fault written.fault (g.W.Sink.failures c.args.out.now) (g.W.Sink.failures c.put_total.new.out) (written.counts_failure ∙ ap (λ m. write_failures_after {T = ⊤} m (Err fault)) c.loop.invariant.writes),
    )

pub returns-in-Ok-None-clause-reports : goal.returns-in-Ok-None-clause-reports
returns-in-Ok-None-clause-reports g c =
    let gives = rw c.in-Ok-None.field-0-is at c.in-Ok-None.ensures.gives in
    let so_far = c.loop.invariant.so_far in
    let written = c.in_ok-put_total-in-Ok-None.ensures in (
      whole so_far.done (Ok c.summary.result),
      at_end c.args.options.doc c.args.options.end c.args.path.now (g.R.Source.left c.args.reader.now) (g.W.Sink.held c.args.out.now) c.loop.refusals (g.R.Source.left c.loop.reader) (g.W.Sink.held c.loop.out) c.loop.status so_far c.next.new.self (g.R.Source.left c.next.new.reader)
          c.summary.result c.summary.ensures gives c.in-Ok-None.ensures.reads_at_most (g.R.Source.failures c.args.reader.now) (g.R.Source.failures c.next.new.reader) (c.in-Ok-None.ensures.counts_read_failure c.loop.invariant.sound ∙ c.loop.invariant.reads),
      ended c.args.options.doc c.args.options.end c.args.path.now (g.R.Source.left c.args.reader.now) (g.W.Sink.held c.args.out.now) so_far.done (g.W.Sink.held c.loop.out) so_far.written (Ok c.summary.result)
          (g.W.Sink.held c.put_total.new.out) written.written c.loop.status so_far.status_is (g.W.Sink.failures c.args.out.now) (g.W.Sink.failures c.put_total.new.out) (written.counts_failure ∙ c.loop.invariant.writes),
    )

pub returns-in_err-put_fault_record-in-Err-clause-reports : goal.returns-in_err-put_fault_record-in-Err-clause-reports
returns-in_err-put_fault_record-in-Err-clause-reports g c =
    let p = err_from_is_err_and c.from_residual-in_err-put_fault_record-in-Err.result c.from_residual-in_err-put_fault_record-in-Err.ensures.1 in
    let so_far = c.loop.invariant.so_far in
    let written = c.in_err-put_fault_record-in-Err.ensures in
    let fault = c.in_err-put_fault_record-in-Err.field-0.0 in
    rw (p.1, p.2) (
      whole so_far.done (Err c.in-Err.fault),
      at_fault c.args.options.doc c.args.options.end c.args.path.now (g.R.Source.left c.args.reader.now) (g.W.Sink.held c.args.out.now) c.loop.refusals (g.R.Source.left c.loop.reader) (g.W.Sink.held c.loop.out) c.loop.status so_far c.next.new.self (g.R.Source.left c.next.new.reader)
          c.in-Err.fault c.in-Err.ensures.fault c.in-Err.ensures.gives c.in-Err.ensures.reads_at_most (g.R.Source.failures c.args.reader.now) (g.R.Source.failures c.next.new.reader) (c.in-Err.ensures.counts_read_failure c.loop.invariant.sound ∙ ap (λ m. read_failures_after {T = Summary} m (Err c.in-Err.fault)) c.loop.invariant.reads),
      unended c.args.options.doc c.args.options.end c.args.path.now (g.R.Source.left c.args.reader.now) (g.W.Sink.held c.args.out.now) so_far.done (g.W.Sink.held c.loop.out) so_far.written (Err c.in-Err.fault)
          (g.W.Sink.held c.put_fault_record-in-Err.new.out) written.written fault written.fault (g.W.Sink.failures c.args.out.now) (g.W.Sink.failures c.put_fault_record-in-Err.new.out) (written.counts_failure ∙ ap (λ m. write_failures_after {T = ⊤} m (Err fault)) c.loop.invariant.writes),
    )

pub returns-in-Err-clause-reports : goal.returns-in-Err-clause-reports
returns-in-Err-clause-reports g c =
    let so_far = c.loop.invariant.so_far in
    let written = c.in_ok-put_fault_record-in-Err.ensures in (
      whole so_far.done (Err c.in-Err.fault),
      at_fault c.args.options.doc c.args.options.end c.args.path.now (g.R.Source.left c.args.reader.now) (g.W.Sink.held c.args.out.now) c.loop.refusals (g.R.Source.left c.loop.reader) (g.W.Sink.held c.loop.out) c.loop.status so_far c.next.new.self (g.R.Source.left c.next.new.reader)
          c.in-Err.fault c.in-Err.ensures.fault c.in-Err.ensures.gives c.in-Err.ensures.reads_at_most (g.R.Source.failures c.args.reader.now) (g.R.Source.failures c.next.new.reader) (c.in-Err.ensures.counts_read_failure c.loop.invariant.sound ∙ ap (λ m. read_failures_after {T = Summary} m (Err c.in-Err.fault)) c.loop.invariant.reads),
      ended c.args.options.doc c.args.options.end c.args.path.now (g.R.Source.left c.args.reader.now) (g.W.Sink.held c.args.out.now) so_far.done (g.W.Sink.held c.loop.out) so_far.written (Err c.in-Err.fault)
          (g.W.Sink.held c.put_fault_record-in-Err.new.out) written.written 3 refl (g.W.Sink.failures c.args.out.now) (g.W.Sink.failures c.put_fault_record-in-Err.new.out) (written.counts_failure ∙ c.loop.invariant.writes),
    )

pub returns-in_err-put_fault_record-clause-reports : goal.returns-in_err-put_fault_record-clause-reports
returns-in_err-put_fault_record-clause-reports g c =
    let p = err_from_is_err_and c.from_residual-in_err-put_fault_record.result c.from_residual-in_err-put_fault_record.ensures.1 in
    let so_far = c.loop.invariant.so_far in
    let written = c.in_err-put_fault_record.ensures in
    let fault = c.in_err-put_fault_record.field-0.0 in
    rw (p.1, p.2) (
      whole so_far.done (Err Memory),
      at_many c.args.options.doc c.args.options.end c.args.path.now (g.R.Source.left c.args.reader.now) (g.W.Sink.held c.args.out.now) c.loop.refusals (g.R.Source.left c.loop.reader) (g.W.Sink.held c.loop.out) c.loop.status so_far
          (g.R.Source.failures c.args.reader.now) (g.R.Source.failures c.loop.reader) c.loop.invariant.reads,
      unended c.args.options.doc c.args.options.end c.args.path.now (g.R.Source.left c.args.reader.now) (g.W.Sink.held c.args.out.now) so_far.done (g.W.Sink.held c.loop.out) so_far.written (Err Memory)
          (g.W.Sink.held c.put_fault_record-2.new.out) written.written fault written.fault (g.W.Sink.failures c.args.out.now) (g.W.Sink.failures c.put_fault_record-2.new.out) (written.counts_failure ∙ ap (λ m. write_failures_after {T = ⊤} m (Err fault)) c.loop.invariant.writes),
    )

pub returns-clause-reports : goal.returns-clause-reports
returns-clause-reports g c =
    let so_far = c.loop.invariant.so_far in
    let written = c.in_ok-put_fault_record.ensures in (
      whole so_far.done (Err Memory),
      at_many c.args.options.doc c.args.options.end c.args.path.now (g.R.Source.left c.args.reader.now) (g.W.Sink.held c.args.out.now) c.loop.refusals (g.R.Source.left c.loop.reader) (g.W.Sink.held c.loop.out) c.loop.status so_far
          (g.R.Source.failures c.args.reader.now) (g.R.Source.failures c.loop.reader) c.loop.invariant.reads,
      ended c.args.options.doc c.args.options.end c.args.path.now (g.R.Source.left c.args.reader.now) (g.W.Sink.held c.args.out.now) so_far.done (g.W.Sink.held c.loop.out) so_far.written (Err Memory)
          (g.W.Sink.held c.put_fault_record-2.new.out) written.written 3 refl (g.W.Sink.failures c.args.out.now) (g.W.Sink.failures c.put_fault_record-2.new.out) (written.counts_failure ∙ c.loop.invariant.writes),
    )

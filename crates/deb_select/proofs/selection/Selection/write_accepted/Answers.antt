use Rattle.std.proofs.Common.{◌∙◌, Bool, Ok, Err, refl, sym, ap, ap₂, subst}
use Rattle.std.specs.Prelude.{⊤}
use Rattle.std.proofs.lemmas.Result.{err_from_is_err_and}
use Rattle.deb_base.specs.Bodies.{file_limit}
use Rattle.deb_base.specs.Reading.{TakesNoMore}
use Rattle.deb_control.proofs.GivenRefusals.{takes_none}
use Rattle.deb_select.specs.Accepting.{sink_failures}
use Rattle.deb_select.specs.Forms.{form_shown}
use Rattle.deb_select.specs.Selecting.{Request}
use Rattle.deb_select.specs.declared.accepting.Accepted.{Accepted}
use Rattle.deb_select.proofs.AcceptedFaults.{counts_err, counts_from, line_counts, line_failed, one_failed, step_cut, step_failed}
use Rattle.deb_select.proofs.AcceptedWalks.{all_lines, fits_none, part_lines, part_of_all, walked_first, walked_none}
use Rattle.deb_select.proofs.selection.Selection.write_accepted.Goals as goal

pub loop-init : goal.loop-init
loop-init g c = record {
  sound = c.new-walk.ensures.sound;
  reads = refl;
  writes = refl;
  reports = refl;
  fits = λ text told. fits_none _ text _ _ c.new-walk.ensures.doc told (c.new-walk.ensures.fits text);
  taken = λ text told. subst (TakesNoMore text file_limit) (sym told) (takes_none text);
  walked = λ asked text form begun has told. walked_none asked text _ _ _ _ c.args.begun c.new-walk.ensures.doc has.of_kind told (c.new-walk.ensures.fits text) c.new-walk.ensures.summary c.new-walk.ensures.outcome begun;
}

pub loop-preserved : goal.loop-preserved
loop-preserved g c =
    let i = c.loop.invariant in
    let step = c.in_ok-step.ensures in
    let steps = rw c.if-not-branch.false at step.steps in
    record {
      sound = step.sound (ap Ok c.if-not-branch.false);
      reads = step.counts_read_failure ∙ i.reads;
      writes = ap (λ f. f.writer) step.counts_write_failure ∙ i.writes;
      reports = ap (λ f. f.reports) step.counts_write_failure ∙ i.reports;
      fits = λ text told. step.fits text (i.fits text told) (ap Ok c.if-not-branch.false);
      taken = λ text told. step.reads_at_most text (i.fits text told);
      walked = λ asked text form begun has told. steps asked text _ form has (i.walked asked text form begun has told);
    }

pub returns-in_err-step-clause-cut_off : goal.returns-in_err-step-clause-cut_off
returns-in_err-step-clause-cut_off g c = λ asked text form begun has told.
    let e = err_from_is_err_and c.from_residual.result c.from_residual.ensures.1 in
    rw (e.1, e.2) (step_cut Accepted asked text _ _ _ _ _ c.in_err-step.field-0.0 (λ first. first.written) (c.in_err-step.ensures.steps asked text _ form has (c.loop.invariant.walked asked text form begun has told)))

pub returns-in_err-step-clause-write : goal.returns-in_err-step-clause-write
returns-in_err-step-clause-write g c = λ asked text form begun has told.
    let e = err_from_is_err_and c.from_residual.result c.from_residual.ensures.1 in
    rw (e.1, e.2) (step_failed Accepted asked text _ _ _ _ _ c.in_err-step.field-0.0 (λ part. part.written) (c.in_err-step.ensures.steps asked text _ form has (c.loop.invariant.walked asked text form begun has told)))

pub returns-in_err-step-clause-reported_first : goal.returns-in_err-step-clause-reported_first
returns-in_err-step-clause-reported_first g c = λ asked text has told.
    let e = err_from_is_err_and c.from_residual.result c.from_residual.ensures.1 in
    let own : Request = record { kind = asked.kind; selection = asked.selection; form = form_shown c.args.form.now; begun = c.args.begun } in
    rw (e.1, e.2) (step_cut Accepted own text _ _ _ _ _ c.in_err-step.field-0.0 (λ first. first.reported) (c.in_err-step.ensures.steps own text _ refl has (c.loop.invariant.walked own text refl refl has told)))

pub returns-in_err-step-clause-reported_part : goal.returns-in_err-step-clause-reported_part
returns-in_err-step-clause-reported_part g c = λ asked text has told.
    let e = err_from_is_err_and c.from_residual.result c.from_residual.ensures.1 in
    let own : Request = record { kind = asked.kind; selection = asked.selection; form = form_shown c.args.form.now; begun = c.args.begun } in
    rw (e.1, e.2) (step_failed Accepted own text _ _ _ _ _ c.in_err-step.field-0.0 (λ part. part.reported) (c.in_err-step.ensures.steps own text _ refl has (c.loop.invariant.walked own text refl refl has told)))

pub returns-in_err-step-clause-reads_at_most : goal.returns-in_err-step-clause-reads_at_most
returns-in_err-step-clause-reads_at_most g c = λ text told. c.in_err-step.ensures.reads_at_most text (c.loop.invariant.fits text told)

pub returns-in_err-step-clause-counts_write_failure : goal.returns-in_err-step-clause-counts_write_failure
returns-in_err-step-clause-counts_write_failure g c =
    let e = err_from_is_err_and c.from_residual.result c.from_residual.ensures.1 in
    let i = c.loop.invariant in
    rw (e.1, e.2) (counts_from Accepted _ _ _ _ (sink_failures (g.W.Sink.failures c.step.new.writer) (g.E.Sink.failures c.step.new.reports)) (Err c.in_err-step.field-0.0) i.writes i.reports (counts_err Bool Accepted _ _ c.in_err-step.field-0.0 c.in_err-step.ensures.counts_write_failure))

pub returns-in_err-step-clause-fault_iff_write_failed : goal.returns-in_err-step-clause-fault_iff_write_failed
returns-in_err-step-clause-fault_iff_write_failed g c = one_failed _ _ _ (returns-in_err-step-clause-counts_write_failure g c)

pub returns-in_err-write_line-clause-write : goal.returns-in_err-write_line-clause-write
returns-in_err-write_line-clause-write g c = λ asked text form begun has told.
    let e = err_from_is_err_and c.from_residual-in_err-write_line.result c.from_residual-in_err-write_line.ensures.1 in
    let steps = rw c.if-not-branch.true at c.in_ok-step.ensures.steps in
    let all = steps asked text _ form has (c.loop.invariant.walked asked text form begun has told) in
    rw (e.1, e.2) (line_failed Accepted _ c.in_err-write_line.field-0.0 (part_of_all all))

pub returns-in_err-write_line-clause-reported_part : goal.returns-in_err-write_line-clause-reported_part
returns-in_err-write_line-clause-reported_part g c = λ asked text has told.
    let e = err_from_is_err_and c.from_residual-in_err-write_line.result c.from_residual-in_err-write_line.ensures.1 in
    let own : Request = record { kind = asked.kind; selection = asked.selection; form = form_shown c.args.form.now; begun = c.args.begun } in
    let steps = rw c.if-not-branch.true at c.in_ok-step.ensures.steps in
    let all = steps own text _ refl has (c.loop.invariant.walked own text refl refl has told) in
    rw (e.1, e.2) (line_failed Accepted _ c.in_err-write_line.field-0.0 (part_lines all _ c.in_err-write_line.ensures.written))

pub returns-in_err-write_line-clause-reads_at_most : goal.returns-in_err-write_line-clause-reads_at_most
returns-in_err-write_line-clause-reads_at_most g c = λ text told. c.in_ok-step.ensures.reads_at_most text (c.loop.invariant.fits text told)

pub returns-in_err-write_line-clause-counts_write_failure : goal.returns-in_err-write_line-clause-counts_write_failure
returns-in_err-write_line-clause-counts_write_failure g c =
    let e = err_from_is_err_and c.from_residual-in_err-write_line.result c.from_residual-in_err-write_line.ensures.1 in
    let same = c.in_ok-step.ensures.counts_write_failure in
    let i = c.loop.invariant in
    let writer = g.W.Sink.failures c.step.new.writer in
    let reports = g.E.Sink.failures c.step.new.reports in
    let after = g.E.Sink.failures c.write_line.new.out in
    rw (e.1, e.2) (counts_from Accepted writer _ reports _ (sink_failures writer after) (Err c.in_err-write_line.field-0.0) (ap (λ f. f.writer) same ∙ i.writes) (ap (λ f. f.reports) same ∙ i.reports)
    (line_counts ⊤ Accepted writer reports after c.in_err-write_line.field-0.0 c.in_err-write_line.ensures.fault c.in_err-write_line.ensures.counts_failure))

pub returns-in_err-write_line-clause-fault_iff_write_failed : goal.returns-in_err-write_line-clause-fault_iff_write_failed
returns-in_err-write_line-clause-fault_iff_write_failed g c = one_failed _ _ _ (returns-in_err-write_line-clause-counts_write_failure g c)

pub returns-then-not-branch-clause-ok : goal.returns-then-not-branch-clause-ok
returns-then-not-branch-clause-ok g c = λ asked text form begun has told.
    let steps = rw c.if-not-branch.true at c.in_ok-step.ensures.steps in
    (steps asked text _ form has (c.loop.invariant.walked asked text form begun has told)).written

pub returns-then-not-branch-clause-reported : goal.returns-then-not-branch-clause-reported
returns-then-not-branch-clause-reported g c = λ asked text has told.
    let own : Request = record { kind = asked.kind; selection = asked.selection; form = form_shown c.args.form.now; begun = c.args.begun } in
    let steps = rw c.if-not-branch.true at c.in_ok-step.ensures.steps in
    let all = steps own text _ refl has (c.loop.invariant.walked own text refl refl has told) in
    all_lines all _ c.in_ok-write_line.ensures.written

pub returns-then-not-branch-clause-reads_at_most : goal.returns-then-not-branch-clause-reads_at_most
returns-then-not-branch-clause-reads_at_most g c = λ text told. c.in_ok-step.ensures.reads_at_most text (c.loop.invariant.fits text told)

pub returns-then-not-branch-clause-counts_write_failure : goal.returns-then-not-branch-clause-counts_write_failure
returns-then-not-branch-clause-counts_write_failure g c =
    let same = c.in_ok-step.ensures.counts_write_failure in
    let i = c.loop.invariant in
    ap₂ sink_failures (ap (λ f. f.writer) same ∙ i.writes) (c.in_ok-write_line.ensures.counts_failure ∙ ap (λ f. f.reports) same ∙ i.reports)

pub returns-then-not-branch-clause-fault_iff_write_failed : goal.returns-then-not-branch-clause-fault_iff_write_failed
returns-then-not-branch-clause-fault_iff_write_failed g c = one_failed _ _ _ (returns-then-not-branch-clause-counts_write_failure g c)

pub returns-clause-cut_off : goal.returns-clause-cut_off
returns-clause-cut_off g c = λ asked text form begun has told. (walked_first (c.loop.invariant.walked asked text form begun has told)).written

pub returns-clause-reported_first : goal.returns-clause-reported_first
returns-clause-reported_first g c = λ asked text has told.
    let own : Request = record { kind = asked.kind; selection = asked.selection; form = form_shown c.args.form.now; begun = c.args.begun } in
    (walked_first (c.loop.invariant.walked own text refl refl has told)).reported

pub returns-clause-reads_at_most : goal.returns-clause-reads_at_most
returns-clause-reads_at_most g c = λ text told. c.loop.invariant.taken text told

pub returns-clause-counts_write_failure : goal.returns-clause-counts_write_failure
returns-clause-counts_write_failure g c = ap₂ sink_failures c.loop.invariant.writes c.loop.invariant.reports

pub returns-clause-fault_iff_write_failed : goal.returns-clause-fault_iff_write_failed
returns-clause-fault_iff_write_failed g c = one_failed _ _ _ (returns-clause-counts_write_failure g c)

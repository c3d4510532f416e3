use Rattle.std.proofs.Common.{[], refl, sym, ◌∙◌, subst}
use Rattle.std.proofs.lemmas.Result.{err_from_is_err_and}
use Rattle.deb_base.specs.Devices.{AppendsFront}
use Rattle.deb_control.specs.GivenRefusals.{HasGiven}
use Rattle.deb_control.specs.WrittenRefusals.{line_written}
use Rattle.deb_control.proofs.WrittenRefusals.{all_failed, cut_after, failed_after, first_of_given, nothing_written, write_failed, lines_all, lines_are_text, lines_first}
use Rattle.deb_control.proofs.checking.check_all.Goals as goal

pub loop-init : goal.loop-init
loop-init g c = record {
  sound = c.new-refusals.ensures.sound;
  reads = refl;
  writes = refl;
  text = λ text left. nothing_written line_written c.args.doc text _ _ _ (subst (λ l. HasGiven c.args.doc text c.new-refusals.result l []) (sym left) (c.new-refusals.ensures.starts text));
}

pub returns-in_err-check_next-clause-cut_off : goal.returns-in_err-check_next-clause-cut_off
returns-in_err-check_next-clause-cut_off g c = λ text left.
    let p = err_from_is_err_and c.from_residual.result c.from_residual.ensures.1 in
    rw (p.1, p.2) (cut_after line_written c.args.doc text _ _ _ _ _ c.in_err-check_next.field-0.0 (lines_first c.args.doc text _ _) (c.in_err-check_next.ensures.writes_next c.args.doc text _ (c.loop.invariant.text text left)))

pub returns-in_err-check_next-clause-write : goal.returns-in_err-check_next-clause-write
returns-in_err-check_next-clause-write g c = λ text left.
    let p = err_from_is_err_and c.from_residual.result c.from_residual.ensures.1 in
    rw (p.1, p.2) (failed_after line_written c.args.doc text _ _ _ _ _ c.in_err-check_next.field-0.0 (subst (AppendsFront _ _) (lines_are_text c.args.doc text)) (c.in_err-check_next.ensures.writes_next c.args.doc text _ (c.loop.invariant.text text left)))

pub returns-in_err-check_next-clause-reads_at_most : goal.returns-in_err-check_next-clause-reads_at_most
returns-in_err-check_next-clause-reads_at_most g c = λ text left. c.check_next.ensures.reads_at_most c.args.doc text _ (c.loop.invariant.text text left)

pub returns-in_err-write_line-clause-write : goal.returns-in_err-write_line-clause-write
returns-in_err-write_line-clause-write g c = λ text left.
    let p = err_from_is_err_and c.from_residual-in_err-write_line.result c.from_residual-in_err-write_line.ensures.1 in
    let writes_next = rw c.if-not-branch.true at c.in_ok-check_next.ensures.writes_next in
    let front = all_failed line_written c.args.doc text _ _ _ _ _ (writes_next c.args.doc text _ (c.loop.invariant.text text left)) (rw c.summary-summary.ensures at c.in_err-write_line.ensures.written) in
    rw (p.1, p.2) (write_failed c.in_err-write_line.field-0.0 _ (subst (AppendsFront _ _) (lines_are_text c.args.doc text) front))

pub returns-in_err-write_line-clause-reads_at_most : goal.returns-in_err-write_line-clause-reads_at_most
returns-in_err-write_line-clause-reads_at_most g c = λ text left. c.check_next.ensures.reads_at_most c.args.doc text _ (c.loop.invariant.text text left)

pub returns-then-not-branch-clause-ok : goal.returns-then-not-branch-clause-ok
returns-then-not-branch-clause-ok g c = λ text left.
    let writes_next = rw c.if-not-branch.true at c.in_ok-check_next.ensures.writes_next in
    rw c.summary-summary.ensures (lines_all c.args.doc text _ _ _ _ _ (writes_next c.args.doc text _ (c.loop.invariant.text text left)) (rw c.summary-summary.ensures at c.in_ok-write_line.ensures.written))

pub returns-then-not-branch-clause-reads_at_most : goal.returns-then-not-branch-clause-reads_at_most
returns-then-not-branch-clause-reads_at_most g c = λ text left. c.check_next.ensures.reads_at_most c.args.doc text _ (c.loop.invariant.text text left)

pub loop-preserved : goal.loop-preserved
loop-preserved g c =
    let writes_next = rw c.if-not-branch.false at c.in_ok-check_next.ensures.writes_next in
    record {
      sound = c.in_ok-check_next.ensures.sound;
      reads = c.in_ok-check_next.ensures.counts_read_failure ∙ c.loop.invariant.reads;
      writes = c.in_ok-check_next.ensures.counts_write_failure ∙ c.loop.invariant.writes;
      text = λ text left. writes_next c.args.doc text _ (c.loop.invariant.text text left);
    }

pub returns-clause-cut_off : goal.returns-clause-cut_off
returns-clause-cut_off g c = λ text left. lines_first c.args.doc text _ _ (first_of_given line_written c.args.doc text _ _ _ _ (c.loop.invariant.text text left))

pub returns-clause-reads_at_most : goal.returns-clause-reads_at_most
returns-clause-reads_at_most g c = λ text left. (c.loop.invariant.text text left).given.taken

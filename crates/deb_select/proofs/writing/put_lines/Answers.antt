use Rattle.std.proofs.Common.{sym, ◌∙◌, subst}
use Rattle.std.proofs.lemmas.Result.{err_from_is_err_and}
use Rattle.deb_base.specs.Devices.{AppendsFront}
use Rattle.deb_base.proofs.Writes.{AppendsFront-more, AppendsFront-then}
use Rattle.deb_select.proofs.Putting.{gap_before}
use Rattle.deb_select.proofs.writing.put_lines.Goals as goal

pub returns-in_err-put_all-clause-written : goal.returns-in_err-put_all-clause-written
returns-in_err-put_all-clause-written g c =
    let p = err_from_is_err_and c.from_residual.result c.from_residual.ensures.1 in
    rw p.1
    (subst (AppendsFront (g.W.Sink.held c.args.writer.now) (g.W.Sink.held c.put_all.new.out)) (sym (gap_before c.args.begun c.args.lines.now (sym c.is_empty.ensures ∙ c.if-is_empty.false)))
    (AppendsFront-more _ _ _ _ (rw c.separator.ensures at c.in_err-put_all.ensures.written)))

pub returns-in_err-put_all-2-clause-written : goal.returns-in_err-put_all-2-clause-written
returns-in_err-put_all-2-clause-written g c =
    let p = err_from_is_err_and c.from_residual-in_err-put_all-2.result c.from_residual-in_err-put_all-2.ensures.1 in
    rw p.1
    (subst (AppendsFront (g.W.Sink.held c.args.writer.now) (g.W.Sink.held c.put_all-2.new.out)) (sym (gap_before c.args.begun c.args.lines.now (sym c.is_empty.ensures ∙ c.if-is_empty.false)))
    (AppendsFront-then _ _ _ _ _ (rw c.separator.ensures at c.in_ok-put_all.ensures.written) c.in_err-put_all-2.ensures.written))

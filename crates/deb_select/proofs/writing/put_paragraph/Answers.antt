use Rattle.std.proofs.lemmas.Result.{err_from_is_err_and}
use Rattle.deb_base.proofs.Writes.{AppendsFront-more}
use Rattle.deb_select.proofs.WrittenTexts.{puts_second, puts_third}
use Rattle.deb_select.proofs.writing.put_paragraph.Goals as goal

pub returns-in_err-put_all-clause-written : goal.returns-in_err-put_all-clause-written
returns-in_err-put_all-clause-written g c =
    let p = err_from_is_err_and c.from_residual.result c.from_residual.ensures.1 in
    rw p.1 (AppendsFront-more _ _ _ _ (rw c.separator.ensures at c.in_err-put_all.ensures.written))

pub returns-in_err-put_all-2-clause-written : goal.returns-in_err-put_all-2-clause-written
returns-in_err-put_all-2-clause-written g c =
    let p = err_from_is_err_and c.from_residual-in_err-put_all-2.result c.from_residual-in_err-put_all-2.ensures.1 in
    rw p.1 (puts_second _ _ _ _ _ _ (rw c.separator.ensures at c.in_ok-put_all.ensures.written) c.in_err-put_all-2.ensures.written)

pub returns-clause-written : goal.returns-clause-written
returns-clause-written g c = puts_third _ _ _ _ _ _ (rw c.separator.ensures at c.in_ok-put_all.ensures.written) _ _ c.in_ok-put_all-2.ensures.written c.put_all-3.ensures.written

use Rattle.std.proofs.Common.{subst}
use Rattle.std.proofs.lemmas.Result.{err_from_is_err_and}
use Rattle.deb_base.specs.Devices.{AppendsFront}
use Rattle.deb_latest.proofs.PassedParagraphs.{own_text, put, skipped}
use Rattle.deb_latest.proofs.winners.Winners.write_next.Goals as goal

pub returns-then-not-is_among-clause-puts : goal.returns-then-not-is_among-clause-puts
returns-then-not-is_among-clause-puts g c = λ numbers count before p has lines.
    skipped numbers count before p c.args.self.now has c.is_among.result (rw c.deref.ensures.value at c.is_among.ensures) _ c.if-not-is_among.true

pub returns-in_err-put_paragraph-clause-puts : goal.returns-in_err-put_paragraph-clause-puts
returns-in_err-put_paragraph-clause-puts g c = λ numbers count before p has lines.
    let e = err_from_is_err_and c.from_residual.result c.from_residual.ensures.1 in
    rw (e.1, e.2, c.in_err-put_paragraph.ensures.fault)
    (subst (AppendsFront (g.W.Sink.held c.args.writer.now) (g.W.Sink.held c.put_paragraph.new.writer))
    (own_text numbers count before p c.args.self.now has c.is_among.result (rw c.deref.ensures.value at c.is_among.ensures) c.args.text.now lines c.if-not-is_among.false)
    c.in_err-put_paragraph.ensures.written)

pub returns-clause-puts : goal.returns-clause-puts
returns-clause-puts g c = λ numbers count before p has lines.
    put numbers count before p c.args.self.now has c.is_among.result (rw c.deref.ensures.value at c.is_among.ensures) c.args.text.now lines c.if-not-is_among.false _ _ c.in_ok-put_paragraph.ensures.written

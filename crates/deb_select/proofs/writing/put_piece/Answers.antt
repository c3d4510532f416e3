use Rattle.std.proofs.Common.{refl, subst}
use Rattle.std.proofs.lemmas.Result.{err_from_is_err_and}
use Rattle.std.specs.Io.KnownBytes.{Appends}
use Rattle.deb_base.specs.Devices.{AppendsFront}
use Rattle.deb_select.proofs.Putting.{piece_text}
use Rattle.deb_select.proofs.writing.put_piece.Goals as goal

pub returns-in_err-put_paragraph-in-Paragraphs-clause-puts :
    goal.returns-in_err-put_paragraph-in-Paragraphs-clause-puts
returns-in_err-put_paragraph-in-Paragraphs-clause-puts g c = λ values p are lines first fields.
    let e = err_from_is_err_and c.from_residual.result c.from_residual.ensures.1 in
    rw (e.1, e.2, c.in_err-put_paragraph-in-Paragraphs.ensures.fault, c.in-Paragraphs.is)
    (subst (AppendsFront (g.W.Sink.held c.args.writer.now) (g.W.Sink.held c.put_paragraph.new.writer)) (piece_text c.args.begun c.args.text.now p lines) c.in_err-put_paragraph-in-Paragraphs.ensures.written)

pub returns-in_ok-put_paragraph-in-Paragraphs-clause-puts :
    goal.returns-in_ok-put_paragraph-in-Paragraphs-clause-puts
returns-in_ok-put_paragraph-in-Paragraphs-clause-puts g c = λ values p are lines first fields.
    rw c.in-Paragraphs.is
    (refl, refl, subst (Appends (g.W.Sink.held c.args.writer.now) (g.W.Sink.held c.put_paragraph.new.writer)) (piece_text c.args.begun c.args.text.now p lines) c.in_ok-put_paragraph-in-Paragraphs.ensures.written)

use Rattle.std.proofs.Common.{◌≡◌, ◌∙◌, true, sym}
use Rattle.std.proofs.lemmas.Result.{err_from_is_err_and}
use Rattle.deb_control.specs.CheckedStates.{doc_judged, doc_read, lines_checked, passing_judged}
use Rattle.deb_select.specs.Conditions.{selects}
use Rattle.deb_select.specs.FieldBodies.{fields_in}
use Rattle.deb_select.specs.Forms.{form_shown}
use Rattle.deb_select.proofs.Putting.{answered_view, are_in_view, own_fields, own_first, own_lines, selected_fault, selected_put}
use Rattle.deb_select.proofs.selection.Selection.put.Goals as goal

pub returns-in_err-piece-clause-puts : goal.returns-in_err-piece-clause-puts
returns-in_err-piece-clause-puts g c = λ selection seen values p has current are lines first fields.
    let e = err_from_is_err_and c.from_residual-in_err-piece.result c.from_residual-in_err-piece.ensures.1 in
    let doc = doc_read c.args.checked.now in
    let view = doc_judged c.in-Some.paragraph in
    let shown = (passing_judged c.in-Some.paragraph).seen in
    let selected : true ≡ selects selection values =
    sym c.if-not-branch.false ∙ answered_view c.args.self.now doc view seen shown selection values c.in_ok-selects.field-0 c.in-Some.ensures.doc (c.in-Some.ensures.seen ∙ current) has are c.in_ok-selects.ensures in
    rw (e.1, e.2)
    (selected_fault (form_shown c.args.form.now) c.args.begun selection values p c.in_err-piece.field-0.0 (g.W.Sink.held c.args.writer.now) (g.W.Sink.held c.put_piece.new.writer) selected
    (c.in_err-piece.ensures.puts values p (are_in_view doc view seen shown values c.in-Some.ensures.doc (c.in-Some.ensures.seen ∙ current) are)
    (own_lines c.in-Some-text.text.now p (lines_checked c.args.checked.now) lines c.in-Some-text.ensures)
    (own_first shown seen p (c.in-Some.ensures.seen ∙ current) first)
    (own_fields shown seen (fields_in p) (c.in-Some.ensures.seen ∙ current) fields)))

pub returns-clause-puts : goal.returns-clause-puts
returns-clause-puts g c = λ selection seen values p has current are lines first fields.
    let doc = doc_read c.args.checked.now in
    let view = doc_judged c.in-Some.paragraph in
    let shown = (passing_judged c.in-Some.paragraph).seen in
    let selected : true ≡ selects selection values =
    sym c.if-not-branch.false ∙ answered_view c.args.self.now doc view seen shown selection values c.in_ok-selects.field-0 c.in-Some.ensures.doc (c.in-Some.ensures.seen ∙ current) has are c.in_ok-selects.ensures in
    selected_put (form_shown c.args.form.now) c.args.begun selection values p c.in_ok-piece.piece (g.W.Sink.held c.args.writer.now) (g.W.Sink.held c.put_piece.new.writer) selected
    (c.in_ok-piece.ensures.puts values p (are_in_view doc view seen shown values c.in-Some.ensures.doc (c.in-Some.ensures.seen ∙ current) are)
    (own_lines c.in-Some-text.text.now p (lines_checked c.args.checked.now) lines c.in-Some-text.ensures)
    (own_first shown seen p (c.in-Some.ensures.seen ∙ current) first)
    (own_fields shown seen (fields_in p) (c.in-Some.ensures.seen ∙ current) fields))

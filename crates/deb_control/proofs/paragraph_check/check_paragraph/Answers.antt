use Rattle.deb_control.proofs.Common.{Err, sym, ap, ◌∙◌, ParagraphTooLong, seen_of}
use Rattle.deb_control.proofs.Measured.{measured-too_long, measured-length, measured-visits}
use Rattle.deb_control.proofs.paragraph_check.check_paragraph.Goals as goal

pub returns-then-length-clause-fault : goal.returns-then-length-clause-fault
returns-then-length-clause-fault g c =
    let raw = c.args.paragraph.now in
    rw c.refused-then-length.ensures
    (measured-too_long g.V.FieldVisitor.Visited _ c.args.doc (seen_of raw) c.in_ok-length.length raw.fields c.in_ok-length.ensures.visits (sym c.if-not-has_required.false ∙ c.has_required.ensures) c.if-length.true
    ∙ ap (λ line. Err (record { code = ParagraphTooLong; line = line })) (sym c.first_line-then-length.ensures.value))

pub returns-clause-length : goal.returns-clause-length
returns-clause-length g c =
    measured-length g.V.FieldVisitor.Visited _ c.args.doc (seen_of c.args.paragraph.now) c.in_ok-length.length c.args.paragraph.now.fields c.in_ok-length.ensures.visits (sym c.if-not-has_required.false ∙ c.has_required.ensures) c.if-length.false

pub returns-clause-visits : goal.returns-clause-visits
returns-clause-visits g c =
    measured-visits g.V.FieldVisitor.Visited _ c.args.doc (seen_of c.args.paragraph.now) c.in_ok-length.length c.args.paragraph.now.fields c.in_ok-length.ensures.visits (sym c.if-not-has_required.false ∙ c.has_required.ensures) c.if-length.false

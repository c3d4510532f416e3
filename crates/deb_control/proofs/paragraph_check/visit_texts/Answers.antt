use Rattle.deb_control.proofs.Common.{◌<◌, subst, arith, Any, field_of, fields_of}
use Rattle.deb_control.proofs.FieldsRead.{none_is_past}
use Rattle.deb_control.proofs.Visited.{HasVisited-start, HasVisited-next, VisitsField-any, VisitsFields-end}
use Rattle.deb_control.proofs.paragraph_check.visit_texts.Goals as goal
use Rattle.deb_control.proofs.paragraph_check.visit_texts.Goals.{in-Some+in_ok-visit_as_text, in_default}

pub loop-index-init : goal.loop-index-init
loop-index-init g c = HasVisited-start g.V.FieldVisitor.Visited _ Any (fields_of c.args.paragraph.now) c.start.ensures

pub loop-index-preserved : goal.loop-index-preserved
loop-index-preserved g c =
    let fields = fields_of c.args.paragraph.now in
    elim c.match-field.branch [
      | in-Some+in_ok-visit_as_text w ↦
          rw (w.length-is, w.visitor-is) (HasVisited-next g.V.FieldVisitor.Visited c.loop-index.visitor _ Any fields c.loop-index.length _ _ c.loop-index.index w.in-Some.raw w.in-Some.ensures.field (VisitsField-any _ _ _ (field_of w.in-Some.raw) _ (rw (w.in_ok-visit_as_text.was) at w.visit_as_text.ensures)) w.saturating_add-length.ensures c.loop-index.invariant)
      | in_default w ↦ absurd (none_is_past fields c.loop-index.index (subst (λ n. c.loop-index.index < n) c.len-index-end.ensures c.loop-index-test.true) w.in_default.ensures.field)
    ]

pub returns : goal.returns
returns g c =
    VisitsFields-end g.V.FieldVisitor.Visited _ Any (fields_of c.args.paragraph.now) c.loop-index.length c.loop-index.index (omega (arith, c.len-index-end.ensures, c.loop-index-test.false)) c.loop-index.invariant

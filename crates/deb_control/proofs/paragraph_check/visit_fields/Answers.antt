use Rattle.deb_control.proofs.Common.{◌≡◌, ◌<◌, ◌∙◌, ap, sym, subst, Some, arith, err_from_is_err_and, fields_of, kind_refusal, rules_of, value_refusal_of}
use Rattle.deb_control.proofs.FieldsRead.{refused-here, RefusedOrMemory-to, none_is_past}
use Rattle.deb_control.proofs.Visited.{HasVisited-start, HasVisited-next, VisitsFields-end}
use Rattle.deb_control.proofs.paragraph_check.visit_fields.Goals as goal
use Rattle.deb_control.proofs.paragraph_check.visit_fields.Goals.{in-Some+in_ok-visit_field, in_default-field}

pub returns-in_err-visit_field-clause-fault : goal.returns-in_err-visit_field-clause-fault
returns-in_err-visit_field-clause-fault g c =
    let p = err_from_is_err_and c.from_residual-in_err-visit_field.result c.from_residual-in_err-visit_field.ensures.1 in
    let raw = c.in-Some.raw in
    let fields = fields_of c.args.paragraph.now in
    rw (p.1, p.2)
    (RefusedOrMemory-to (λ refusal. (refusal.line ≡ raw.line) × (kind_refusal c.kind_of_field.result raw.body.now ≡ Some refusal.code)) (λ refusal. value_refusal_of (rules_of c.args.doc) fields ≡ Some refusal)
    (λ refusal refused. refused-here c.args.doc fields c.loop-index.index raw refusal c.in-Some.ensures.field c.loop-index.invariant.read.refusal (refused.0, ap (λ kind. kind_refusal kind raw.body.now) (sym c.kind_of_field.ensures) ∙ refused.1))
    c.in_err-visit_field.field-0.0 c.in_err-visit_field.ensures.fault)

pub loop-index-init : goal.loop-index-init
loop-index-init g c = HasVisited-start g.V.FieldVisitor.Visited _ c.args.doc (fields_of c.args.paragraph.now) c.start.ensures

pub loop-index-preserved : goal.loop-index-preserved
loop-index-preserved g c =
    let fields = fields_of c.args.paragraph.now in
    elim c.match-field.branch [
      | in-Some+in_ok-visit_field w ↦
          rw (w.length-is, w.visitor-is) (HasVisited-next g.V.FieldVisitor.Visited c.loop-index.visitor _ c.args.doc fields c.loop-index.length _ _ c.loop-index.index w.in-Some.raw w.in-Some.ensures.field (rw (w.in_ok-visit_field.was, w.kind_of_field.ensures) at w.visit_field.ensures.visits) w.saturating_add-length.ensures c.loop-index.invariant)
      | in_default-field w ↦ absurd (none_is_past fields c.loop-index.index (subst (λ n. c.loop-index.index < n) c.len-index-end.ensures c.loop-index-test.true) w.in_default-field.ensures.field)
    ]

pub returns-clause-visits : goal.returns-clause-visits
returns-clause-visits g c =
    VisitsFields-end g.V.FieldVisitor.Visited _ c.args.doc (fields_of c.args.paragraph.now) c.loop-index.length c.loop-index.index (omega (arith, c.len-index-end.ensures, c.loop-index-test.false)) c.loop-index.invariant

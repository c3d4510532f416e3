use Rattle.deb_control.proofs.Common.{◌≡◌, sym, ap, subst, ◌∙◌, refl, Some, false≢true, folded, value_meaning}
use Rattle.deb_control.proofs.ValueLookups.{value-found, value-passed}
use Rattle.deb_control.proofs.paragraph.Paragraph.get.Goals as goal

pub returns-then-same_name : goal.returns-then-same_name
returns-then-same_name c =
    ap (λ field. Some (value_meaning field.value)) c.field-item.is
    ∙ sym (value-found c.args.name.now c.as_slice-field-items.result.now c.loop-field.field-index c.field-item.result c.loop-field-test.true (subst (λ field. folded field.raw.name.now ≡ folded c.args.name.now) c.field-item.is (c.if-same_name.ensures.0 refl)))
    ∙ c.loop-field.invariant

pub loop-field-preserved : goal.loop-field-preserved
loop-field-preserved c =
    sym (value-passed c.args.name.now c.as_slice-field-items.result.now c.loop-field.field-index c.field-item.result c.loop-field-test.true (λ same. false≢true (c.if-same_name.ensures.1 (subst (λ field. folded field.raw.name.now ≡ folded c.args.name.now) (sym c.field-item.is) same))))
    ∙ c.loop-field.invariant

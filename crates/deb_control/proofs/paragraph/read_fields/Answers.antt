use Rattle.deb_control.proofs.Common.{◌≡◌, IsPermutation, AllByRecursion, map, sym, subst, seen_of, fields_of, field_in, values_in, AreValuesOf, IsOrderOf, IsTypedField, picked}
use Rattle.deb_control.proofs.OrderedFields.{AreValuesOf-ordered, if_both}
use Rattle.deb_control.proofs.paragraph.read_fields.Goals as goal

pub returns-clause-ok : goal.returns-clause-ok
returns-clause-ok c = λ passes.
    let raw = c.args.paragraph.now in
    let numbers = c.deref.result.now in
    let order = subst (IsOrderOf (fields_of raw)) (sym c.deref.ensures.value) c.in_ok-sort_fields.ensures in
    if_both (λ fields. map field_in fields.items ≡ picked (fields_of raw) numbers) (λ fields. AllByRecursion (IsTypedField c.args.doc) fields.items) (λ fields. AreValuesOf c.args.doc (seen_of raw) (values_in fields.items))
    (λ fields read good. AreValuesOf-ordered c.args.doc (seen_of raw) numbers fields.items raw.fields passes order read good)
    c.fields_in_order.result c.fields_in_order.ensures.fields c.fields_in_order.ensures.values

pub returns-clause-fields : goal.returns-clause-fields
returns-clause-fields c =
    let raw = c.args.paragraph.now in
    let numbers = c.deref.result.now in
    let order = subst (IsOrderOf (fields_of raw)) (sym c.deref.ensures.value) c.in_ok-sort_fields.ensures in
    if_both (λ fields. map field_in fields.items ≡ picked (fields_of raw) numbers) (λ fields. AllByRecursion (IsTypedField c.args.doc) fields.items) (λ fields. IsPermutation (fields_of raw) (map field_in fields.items))
    (λ fields read _. subst (IsPermutation (fields_of raw)) (sym read) order.all)
    c.fields_in_order.result c.fields_in_order.ensures.fields c.fields_in_order.ensures.values

use Rattle.deb_control.proofs.Common.{◌≡◌, ◌<◌, Some, IsSome, refl, subst, length, get_or, err_from_is_err_and, All-from_recursion, fields_of, canonical_name, value_refusal, rules_of, value_refusal_of, IsTypedField, TypedField, sym, AllByRecursion}
use Rattle.deb_control.proofs.FieldsRead.{all-push, RefusedOrMemory-to, none_is_past}
use Rattle.deb_control.proofs.OrderedFields.{read-next, refused-at}
use Rattle.deb_control.proofs.paragraph.fields_in_order.Goals as goal
use Rattle.deb_control.proofs.paragraph.fields_in_order.Goals.{in-Some+in_ok-value+in_ok-push, in_default}

pub returns-in_err-value-clause-fault : goal.returns-in_err-value-clause-fault
returns-in_err-value-clause-fault c =
    let p = err_from_is_err_and c.from_residual-in_err-value.result c.from_residual-in_err-value.ensures.1 in
    let raw = c.in-Some.raw in
    let fields = fields_of c.args.paragraph.now in
    rw (p.1, p.2)
    (RefusedOrMemory-to (λ refusal. (refusal.line ≡ raw.line) × (value_refusal c.args.doc (canonical_name raw.name.now) raw.body.now ≡ Some refusal.code)) (λ refusal. IsSome (value_refusal_of (rules_of c.args.doc) fields))
    (λ refusal refused. refused-at c.args.doc fields (get_or c.args.order.now c.loop-number.number-index 0) raw refusal.code c.in-Some.ensures.field refused.1)
    c.in_err-value.field-0.0 c.in_err-value.ensures.fault)

pub loop-number-preserved : goal.loop-number-preserved
loop-number-preserved c =
    let fields = fields_of c.args.paragraph.now in
    let order = c.args.order.now in
    let i = c.loop-number.number-index in
    elim c.match-field.branch [
      | in-Some+in_ok-value+in_ok-push w ↦
          let field : TypedField = record { raw = w.in-Some.raw; value = w.in_ok-value.value } in
          rw w.fields-is (record {
            read = read-next c.args.doc fields order i c.loop-number-test.true w.in-Some.raw w.in-Some.ensures.field c.loop-number.fields.items w.push.new.self.items field refl w.in_ok-push.ensures.items c.loop-number.invariant.read;
            good = subst (λ items. AllByRecursion (IsTypedField c.args.doc) items) (sym w.in_ok-push.ensures.items) (all-push (IsTypedField c.args.doc) c.loop-number.fields.items field c.loop-number.invariant.good w.in_ok-value.ensures.ok);
          })
      | in_default w ↦ absurd (none_is_past fields (get_or order i 0) (All-from_recursion (λ k. k < length fields) order c.requires i 0 c.loop-number-test.true) w.in_default.ensures.field)
    ]

use Rattle.deb_control.proofs.Common.{◌<◌, Ok, IsSome, ◌∙◌, ap, subst, length, get_or, All-from_recursion, fields_of, field_of, kind_refusal}
use Rattle.deb_control.specs.CanonTexts.{AppendsField}
use Rattle.deb_control.proofs.AppendedFields.{good-next, not_good, texts-next}
use Rattle.deb_control.proofs.FieldsRead.{none_is_past}
use Rattle.deb_control.proofs.canon_text.append_fields.Goals as goal
use Rattle.deb_control.proofs.canon_text.append_fields.Goals.{in-Some+in_ok-append_field+else-not-branch, in_default}

pub returns-then-not-branch-clause-refused : goal.returns-then-not-branch-clause-refused
returns-then-not-branch-clause-refused c = λ is good.
    let refused = c.append_field.ensures.refused (c.in_ok-append_field.was ∙ ap Ok c.if-not-branch.true) in
    not_good c.args.doc (fields_of c.args.paragraph.now) c.args.order.now c.loop-number.number-index c.loop-number-test.true c.in-Some.field c.in-Some.ensures.field
    (subst (λ kind. IsSome (kind_refusal kind c.in-Some.field.body.now)) c.kind_of_field.ensures refused) good

pub loop-number-preserved : goal.loop-number-preserved
loop-number-preserved c =
    let fields = fields_of c.args.paragraph.now in
    let order = c.args.order.now in
    let i = c.loop-number.number-index in
    elim c.match-field.branch [
      | in-Some+in_ok-append_field+else-not-branch w ↦
          let raw = w.in-Some.field in
          let appends = subst (λ kind. AppendsField kind (field_of raw) c.loop-number.text.items w.append_field.new.text.items) w.kind_of_field.ensures (w.append_field.ensures.good (w.in_ok-append_field.was ∙ ap Ok w.if-not-branch.false)) in
          rw w.text-is (record {
            text = texts-next c.args.doc fields order i c.loop-number-test.true raw w.in-Some.ensures.field c.loop-number.text.items w.append_field.new.text.items _ appends c.loop-number.invariant.text;
            good = good-next c.args.doc fields order i c.loop-number-test.true raw w.in-Some.ensures.field c.loop-number.text.items w.append_field.new.text.items appends c.loop-number.invariant.good;
          })
      | in_default w ↦ absurd (none_is_past fields (get_or order i 0) (All-from_recursion (λ k. k < length fields) order c.requires i 0 c.loop-number-test.true) w.in_default.ensures.field)
    ]

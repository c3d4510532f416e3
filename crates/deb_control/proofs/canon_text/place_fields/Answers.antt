use Rattle.deb_control.proofs.Common.{◌≡◌, ◌<◌, ◌∙◌, sym, ap, subst, arith, length, get_or, fields_of, field_of, no_field}
use Rattle.std.proofs.lemmas.Option.{get_or_from_slice_get}
use Rattle.deb_base.specs.Kinds.{known_row}
use Rattle.deb_control.proofs.Building.{distinct-from}
use Rattle.deb_control.proofs.FieldOrders.{placed-next}
use Rattle.deb_control.proofs.FieldsRead.{none_is_past}
use Rattle.deb_control.proofs.canon_text.place_fields.Goals as goal
use Rattle.deb_control.proofs.canon_text.place_fields.Goals.{in-Some+else-row-rows, in_default}

pub loop-index-preserved : goal.loop-index-preserved
loop-index-preserved c =
    let fields = fields_of c.args.paragraph.now in
    let within : c.loop-index.index < length fields = subst (λ n. c.loop-index.index < n) c.len-index-end.ensures c.loop-index-test.true in
    elim c.match-field.branch [
      | in-Some+else-row-rows w ↦
          λ placed.
          let field = w.in-Some.field in
          let at : get_or fields c.loop-index.index no_field ≡ field_of field = get_or_from_slice_get fields c.loop-index.index (field_of field) no_field (sym w.in-Some.ensures.field) in
          rw w.rows-is
          (placed-next fields c.loop-index.index within c.loop-index.rows _ (distinct-from fields c.args.paragraph.now.fields) (w.row-row.ensures ∙ field.named ∙ ap (λ f. known_row f.name) (sym at)) (omega (arith, w.if-row-rows.false)) (c.loop-index.invariant placed))
      | in_default w ↦ absurd (none_is_past fields c.loop-index.index within w.in_default.ensures.field)
    ]

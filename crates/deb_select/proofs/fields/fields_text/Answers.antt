use Rattle.deb_base.specs.Bodies.{pieces_of}
use Rattle.deb_select.proofs.FieldLines.{field_collected}
use Rattle.deb_select.proofs.fields.fields_text.Goals as goal

pub loop-name-preserved : goal.loop-name-preserved
loop-name-preserved c =
    field_collected (λ name. name.items) (pieces_of c.args.text.now) c.loop-name.out.items c.push_field.new.out.items c.args.names.now c.loop-name.name-index c.name-item.result
    (rw c.as_slice.ensures.value at c.in_ok-push_field.ensures) c.loop-name-test.true c.name-item.is c.loop-name.invariant

use Rattle.deb_control.proofs.Common.{◌++◌, ◌∙◌, refl, sym, ap, subst, fields_of, IsOrderOf, numbers_in}
use Rattle.deb_control.proofs.FieldOrders.{order-placed, placed-none}
use Rattle.deb_control.proofs.canon_text.sort_fields.Goals as goal

pub returns-in_ok-append_numbers : goal.returns-in_ok-append_numbers
returns-in_ok-append_numbers c =
    let fields = fields_of c.args.paragraph.now in
    let rows = c.place_fields.new.rows in
    subst (IsOrderOf fields) (sym (c.in_ok-append_numbers.ensures ∙ ap (λ m. m ++ numbers_in rows) c.clear.ensures.items)) (order-placed fields rows (c.if-place_fields.ensures refl (placed-none fields)))

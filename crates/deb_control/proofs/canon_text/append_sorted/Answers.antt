use Rattle.deb_control.proofs.Common.{◌++◌, ◌∙◌, sym, ap, subst, map, fields_of, IsOrderOf}
use Rattle.deb_control.proofs.Building.{distinct-from}
use Rattle.deb_control.proofs.FieldOrders.{order-sorted}
use Rattle.deb_control.proofs.canon_text.append_sorted.Goals as goal

pub returns : goal.returns
returns c = λ none.
    let fields = fields_of c.args.paragraph.now in
    let now = c.sort_keys.new.keys.items in
    subst (IsOrderOf fields) (sym (c.in_ok-append_numbers_of.ensures ∙ ap (λ m. m ++ map (λ key. key.number) c.deref.result.now) none ∙ ap (map (λ key. key.number)) c.deref.ensures.value))
    (order-sorted fields c.in_ok-keys.keys.items now (distinct-from fields c.args.paragraph.now.fields) c.in_ok-keys.ensures c.sort_keys.ensures.permutation c.sort_keys.ensures.sorted)

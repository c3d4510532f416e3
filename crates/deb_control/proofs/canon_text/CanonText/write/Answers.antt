use Rattle.deb_control.proofs.Common.{◌++◌, sym, ◌∙◌, ap, subst, fields_of, flat_map, rules_of, IsOrderOf, picked, text_under}
use Rattle.deb_control.proofs.Building.{distinct-from}
use Rattle.deb_control.proofs.FieldOrders.{good-ordered, refused-ordered, text-ordered}
use Rattle.deb_control.proofs.canon_text.CanonText.write.Goals as goal

pub returns-clause-good : goal.returns-clause-good
returns-clause-good c = λ good.
    let fields = fields_of c.args.paragraph.now in
    good-ordered (rules_of c.args.doc) fields c.deref.result.now (subst (IsOrderOf fields) (sym c.deref.ensures.value) c.in_ok-sort_fields.ensures) (c.append_fields.ensures.good good)

pub returns-clause-text : goal.returns-clause-text
returns-clause-text c = λ good.
    let fields = fields_of c.args.paragraph.now in
    let rules = rules_of c.args.doc in
    c.append_fields.ensures.text good
    ∙ ap (λ m. m ++ flat_map (text_under rules) (picked fields c.deref.result.now)) c.clear.ensures.items
    ∙ text-ordered rules fields c.deref.result.now (subst (IsOrderOf fields) (sym c.deref.ensures.value) c.in_ok-sort_fields.ensures) (distinct-from fields c.args.paragraph.now.fields)

pub returns-clause-refused : goal.returns-clause-refused
returns-clause-refused c = λ refused.
    let fields = fields_of c.args.paragraph.now in
    refused-ordered (rules_of c.args.doc) fields c.deref.result.now (subst (IsOrderOf fields) (sym c.deref.ensures.value) c.in_ok-sort_fields.ensures) (c.append_fields.ensures.refused refused)

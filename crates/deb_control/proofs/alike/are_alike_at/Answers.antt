use Rattle.deb_control.proofs.Common.{sym, ◌∙◌, bytes_eq-Decides, fields_of, field_of}
use Rattle.deb_control.proofs.SpelledAlike.{alike-at}
use Rattle.deb_control.proofs.alike.are_alike_at.Goals as goal

pub returns-then-eq : goal.returns-then-eq
returns-then-eq c = λ same.
    let field = c.in-Some-Some.field in
    let beside = c.in-Some-Some.beside in
    alike-at (fields_of c.args.one.now) (fields_of c.args.other.now) c.args.index (field_of field) (field_of beside) (sym c.in-Some-Some.ensures.field) (sym c.in-Some-Some.ensures'.field)
    ((bytes_eq-Decides field.name.now beside.name.now).0 (sym c.eq.ensures ∙ c.if-eq.true)) ((bytes_eq-Decides field.body.now beside.body.now).0 (sym c.eq-then-eq.ensures ∙ same))

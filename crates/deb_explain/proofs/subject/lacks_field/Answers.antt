use Rattle.std.proofs.Common.{◌≡◌, ◌∙◌, Bool, true, false, not, ap, refl, sym}
use Rattle.deb_syntax.specs.Raw.{fields_of}
use Rattle.deb_explain.proofs.NamedFields.{has_name-found}
use Rattle.deb_explain.proofs.subject.lacks_field.Goals as goal

not-not : (t : Bool) → not (not t) ≡ t
not-not true = refl
not-not false = refl

pub returns : goal.returns
returns c =
    sym (not-not c.is_none.result)
    ∙ ap not (sym c.is_none.ensures ∙ has_name-found c.get.result c.args.name.now (fields_of c.args.paragraph.now) c.get.ensures.field)

-- A field that is found by its name.
use Rattle.std.proofs.Common.{◌≡◌, ℕ, Bool, true, false, List, [], ◌∷◌, Option, None, Some, refl, ap, ◌∙◌}
use Rattle.std.specs.Option.{is_some, option_map}
use Rattle.std.specs.Str.{bytes_eq}
use Rattle.deb_base.specs.Names.{folded}
use Rattle.deb_syntax.specs.Fields.{Field, has_name}
use Rattle.deb_syntax.specs.Raw.{field_named, field_of}
use Rattle.deb_syntax.specs.declared.raw.RawField.{RawField}

is_some-named : (name : List ℕ) (fields : List Field) → is_some (field_named name fields) ≡ has_name name fields
is_some-named name [] = refl
is_some-named name (field ∷ fields) = go (bytes_eq (folded field.name) (folded name)) refl (is_some-named name fields)
  where
    go : (t : Bool) → bytes_eq (folded field.name) (folded name) ≡ t → is_some (field_named name fields) ≡ has_name name fields → is_some (field_named name (field ∷ fields)) ≡ has_name name (field ∷ fields)
    go true e h = rw e refl
    go false e h = rw e h

-- if something was found by a name, the name is there
pub has_name-found : (o : Option RawField) (name : List ℕ) (fields : List Field) → option_map field_of o ≡ field_named name fields → is_some o ≡ has_name name fields
has_name-found None name fields h = ap is_some h ∙ is_some-named name fields
has_name-found (Some raw) name fields h = ap is_some h ∙ is_some-named name fields

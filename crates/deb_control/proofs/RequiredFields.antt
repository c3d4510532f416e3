-- Fields that a document requires, found by their rows in the table.
use Rattle.deb_control.proofs.Common.{◌≡◌, ℕ, ◌<◌, ◌&&◌, ◌||◌, true, List, [], ◌∷◌, map, refl, sym, ap, ◌∙◌, list_all, and_parts, bytes_eq, folded, Field, has_name, have_names, Doc, required}
use Rattle.std.proofs.Common.{ltb-true, nat_lt}
use Rattle.deb_base.proofs.FieldLookups.{same_rows}
use Rattle.deb_base.specs.Kinds.{known_row, row_count}
use Rattle.deb_base.specs.declared.doc.Doc.TheVariants.{Binary, Packages, Source, Sources, Status, Any}
use Rattle.deb_syntax.specs.Raw.{has_field_in}
use Rattle.deb_control.specs.Required.{have_rows}

row_of_name : (name : List ℕ) (fields : List Field) → known_row name < row_count → has_field_in (known_row name) fields ≡ has_name name fields
row_of_name name [] within = refl
row_of_name name (field ∷ fields) within =
    ap (λ t. t || has_field_in (known_row name) fields) (sym (same_rows field.name name within))
    ∙ ap (λ t. bytes_eq (folded field.name) (folded name) || t) (row_of_name name fields within)

rows_of_names : (fields : List Field) (names : List (List ℕ)) → list_all (λ name. nat_lt (known_row name) row_count) names ≡ true → have_rows fields (map known_row names) ≡ have_names fields names
rows_of_names fields [] known = refl
rows_of_names fields (name ∷ names) known =
    let parts = and_parts (nat_lt (known_row name) row_count) (list_all (λ other. nat_lt (known_row other) row_count) names) known in
    ap (λ t. t && have_rows fields (map known_row names)) (row_of_name name fields (ltb-true _ _ parts.0))
    ∙ ap (λ t. has_name name fields && t) (rows_of_names fields names parts.1)

known_names : (doc : Doc) → list_all (λ name. nat_lt (known_row name) row_count) (required doc) ≡ true
unfolding known_row
known_names Binary = refl
known_names Packages = refl
known_names Source = refl
known_names Sources = refl
known_names Status = refl
known_names Any = refl

pub have_rows-required : (doc : Doc) (fields : List Field) → have_rows fields (map known_row (required doc)) ≡ have_names fields (required doc)
have_rows-required doc fields = rows_of_names fields (required doc) (known_names doc)

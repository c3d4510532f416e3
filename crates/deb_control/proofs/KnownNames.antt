-- The canonical names in the table of fields: they ascend, and the row of a field has its name.
use Rattle.deb_control.proofs.Common.{◌≡◌, ℕ, ◌<◌, ◌&&◌, Bool, true, List, [], ◌∷◌, get_or, Ordering, Less, Equal, Greater, refl, ◌∙◌, and_parts, false≢true, list_all, AllByRecursion, is_lt, each_from_list_all, canonical_name, byte_order, known_names}
use Rattle.std.proofs.lemmas.List.{get_or-map}
use Rattle.deb_base.proofs.FieldLookups.{canonical_name-row}
use Rattle.deb_base.specs.Kinds.{FieldRow, known_fields, known_row, row_count}
use Rattle.deb_base.specs.declared.kind.Kind.TheVariants.{Text}

-- each name is below those after it
abbrev pub Ascend : List (List ℕ) → Type 0
Ascend [] = Unit {0}
Ascend (name ∷ names) = AllByRecursion (λ other. byte_order name other ≡ Less) names × Ascend names

-- the table is in order
is_ascending : List (List ℕ) → Bool
is_ascending [] = true
is_ascending (name ∷ names) = list_all (λ other. is_lt (byte_order name other)) names && is_ascending names

less_from_test : (o : Ordering) → is_lt o ≡ true → o ≡ Less
less_from_test Less is = refl
less_from_test Equal is = absurd (false≢true is)
less_from_test Greater is = absurd (false≢true is)

Ascend-from_test : (names : List (List ℕ)) → is_ascending names ≡ true → Ascend names
unfolding is_ascending
Ascend-from_test [] is = tt
Ascend-from_test (name ∷ names) is =
    let parts = and_parts (list_all (λ other. is_lt (byte_order name other)) names) (is_ascending names) is in
    (each_from_list_all (λ other. is_lt (byte_order name other)) (λ other. byte_order name other ≡ Less) (λ other. less_from_test (byte_order name other)) names parts.0, Ascend-from_test names parts.1)

pub known_names-ascend : Ascend known_names
unfolding is_ascending
known_names-ascend = Ascend-from_test known_names refl

pub known_names-row : (name d : List ℕ) → known_row name < row_count → get_or known_names (known_row name) d ≡ canonical_name name
known_names-row name d within =
    let e : FieldRow = ([], Text) in
    get_or-map (λ row. canonical_name row.0) known_fields (known_row name) e d within ∙ canonical_name-row name e within

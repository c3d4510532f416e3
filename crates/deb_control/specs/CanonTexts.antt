-- The fields of a paragraph in the order of their canonical names, and what is written of each.
-- Debian Policy 5.1; the canonical text is this project's own.
use Rattle.std.specs.Prelude.{◌≡◌, ℕ, zero, suc, ◌*◌, ◌^◌, ◌<◌, List, [], ◌∷◌, ◌++◌, length, map, take, get_or, Bool, true, false, None, codes, refl}
use Rattle.std.proofs.lemmas.Bool.{leb-true}
use Rattle.std.specs.List.{AllByRecursion}
use Rattle.std.specs.List.Sorted.{IsPermutation}
use Rattle.std.specs.declared.cmp.Ordering.TheVariants.{Less}
use Rattle.deb_base.specs.Bodies.{newline}
use Rattle.deb_base.specs.FieldNames.{colon}
use Rattle.deb_base.specs.Kinds.{known_fields, known_row, row_count}
use Rattle.deb_base.specs.Names.{canonical_name}
use Rattle.deb_base.specs.declared.kind.Kind.{Kind}
use Rattle.deb_base.specs.declared.doc.Doc.{Doc}
use Rattle.deb_syntax.specs.Answers.{Seen}
use Rattle.deb_syntax.specs.Fields.{Field}
use Rattle.deb_syntax.specs.Meaning.{byte_order}
use Rattle.deb_field.specs.Values.{SpellsKind, ValueMeaning, value_text}
use Rattle.deb_control.specs.Canonical.{behind_colon, field_text}
use Rattle.deb_control.specs.Checking.{text_built}
use Rattle.deb_control.specs.Documents.{rules_of}
use Rattle.deb_control.specs.Refusals.{built}
use Rattle.deb_control.specs.Rules.{Rules}
use Rattle.deb_control.specs.Sorting.{front_number, name_before}
use Rattle.deb_control.specs.declared.canon_text.CanonText.{CanonText}
use Rattle.deb_control.specs.declared.canon_text.SortKey.{SortKey}

-- the canonical names in the rows of the table of fields
abbrev pub known_names : List (List ℕ)
known_names = map (λ row. canonical_name row.0) known_fields

-- the fields of these numbers, which count from 0
abbrev pub no_field : Field
no_field = record { name = []; line = 0; body = [] }

abbrev pub picked : List Field → List ℕ → List Field
picked fields order = map (λ k. get_or fields k no_field) order

-- The canonical name of each field comes before the names of those after it.
abbrev pub NamesAscend : List Field → Type 0
NamesAscend [] = Unit {0}
NamesAscend (field ∷ fields) =
    AllByRecursion
    (λ other. byte_order (canonical_name field.name) (canonical_name other.name) ≡ Less) fields
    × NamesAscend fields

-- Each field has one of these numbers, and they are in the order of the canonical names.
pub record IsOrderOf (fields : List Field) (order : List ℕ) : Type 0 where
  pub within : AllByRecursion (λ k. k < length fields) order
  pub all : IsPermutation fields (picked fields order)
  pub ascend : NamesAscend (picked fields order)

-- the name of the field of a number
abbrev pub name_of : List Field → ℕ → List ℕ
name_of fields k = canonical_name (get_or fields k no_field).name

-- A key has the front of the name of its field.
abbrev pub IsKeyIn : List Field → SortKey → Type 0
IsKeyIn fields key = key.front ≡ front_number 8 (name_of fields key.number)

-- These are the keys of all fields, in their own order.
pub record AreKeysOf (fields : List Field) (keys : List SortKey) : Type 0 where
  pub fronts : AllByRecursion (IsKeyIn fields) keys
  pub within : AllByRecursion (λ key. key.number < length fields) keys
  pub all : map (λ key. get_or fields key.number no_field) keys ≡ fields

-- what keys are compared by
abbrev pub key_bytes : List Field → SortKey → List ℕ
key_bytes fields key = key.front ∷ name_of fields key.number

-- the name of one field comes before that of another
abbrev pub comes_first : List Field → SortKey → SortKey → Bool
comes_first fields key other =
    name_before (get_or fields key.number no_field).name (get_or fields other.number no_field).name

-- The numbers of the fields in the rows. A row without one has 0, else one more than the number.
abbrev pub numbers_in : List ℕ → List ℕ
numbers_in [] = []
numbers_in (zero ∷ rows) = numbers_in rows
numbers_in (suc k ∷ rows) = k ∷ numbers_in rows

-- Each row has no field, or the one that has its canonical name.
abbrev pub IsRow : List Field → List ℕ → ℕ → Type 0
IsRow fields name zero = Unit {0}
IsRow fields name (suc k) =
    (k < length fields) × (canonical_name (get_or fields k no_field).name ≡ name)

abbrev pub AreRows : List Field → (names : List (List ℕ)) → (rows : List ℕ) → Type 0
AreRows fields [] [] = Unit {0}
AreRows fields [] (row ∷ rows) = ⊥
AreRows fields (name ∷ names) [] = ⊥
AreRows fields (name ∷ names) (row ∷ rows) = IsRow fields name row × AreRows fields names rows

-- The first fields are in the rows of their names.
pub record ArePlaced (fields : List Field) (count : ℕ) (rows : List ℕ) : Type 0 where
  pub named : AreRows fields known_names rows
  pub all : IsPermutation (take count fields) (picked fields (numbers_in rows))

-- The body of a field isn't refused, and the text of the field.
abbrev pub IsGood : Rules → Field → Type 0
IsGood rules field = rules.refusal (canonical_name field.name) field.body ≡ None

abbrev pub text_under : Rules → Field → List ℕ
text_under rules field =
    field_text
    (canonical_name field.name, rules.canonical (canonical_name field.name) field.body)

-- what follows the name of a field
abbrev pub body_text : List ℕ → List ℕ
body_text body = colon ∷ (behind_colon body ++ newline ∷ [])

-- What follows the name of a field was appended, whose body spells a value of a kind.
pub record AppendsValue (kind : Kind) (body old new : List ℕ) : Type 0 where
  pub value : ValueMeaning
  pub spells : SpellsKind kind body value
  pub appended : new ≡ old ++ body_text (value_text value)

-- the same with the name
abbrev pub AppendsField : Kind → Field → (old new : List ℕ) → Type 0
AppendsField kind field old new =
    AppendsValue kind field.body (old ++ canonical_name field.name) new

-- This is the text of a paragraph that passes.
abbrev pub HasTextOf : CanonText → Doc → Seen → Type 0
HasTextOf canon doc seen = canon.text.items ≡ text_built (built (rules_of doc) seen)

-- for the worked cases: two fields
abbrev two : List Field
two =
    record { name = codes "b"; line = 1; body = codes "1" }
    ∷ record { name = codes "A"; line = 2; body = codes "2" } ∷ []

picked_fields : (picked two (1 ∷ 0 ∷ 2 ∷ [])
    ≡ record { name = codes "A"; line = 2; body = codes "2" }
    ∷ record { name = codes "b"; line = 1; body = codes "1" } ∷ no_field ∷ [])
    × (picked two [] ≡ [])
picked_fields = (refl, refl)

-- `A` comes before `B`, and not the other way
two_in_order : NamesAscend (picked two (1 ∷ 0 ∷ []))
two_in_order = ((refl, tt), (tt, tt))

-- the name of a row is spelled canonically
names_of_rows : (length known_names ≡ row_count)
    × (get_or known_names (known_row (codes "MD5sum")) [] ≡ codes "Md5sum")
unfolding known_row
names_of_rows = (refl, refl)

numbers_of_rows : (numbers_in (0 ∷ 3 ∷ 0 ∷ 1 ∷ []) ≡ 2 ∷ 0 ∷ []) × (numbers_in (0 ∷ []) ≡ [])
    × (numbers_in [] ≡ [])
numbers_of_rows = (refl, refl, refl)

-- the second field in the row of `A`, and none in that of `B`
rows_of_two : AreRows two (codes "A" ∷ codes "B" ∷ []) (2 ∷ 0 ∷ [])
rows_of_two = ((leb-true 2 2 refl, refl), (tt, tt))

-- as many rows as names
rows_for_names : (AreRows two [] (2 ∷ []) ≡ ⊥) × (AreRows two (codes "A" ∷ []) [] ≡ ⊥)
    × (AreRows two [] [] ≡ Unit {0})
rows_for_names = (refl, refl, refl)

-- the keys of both: `B` is 66 and `A` 65, each before seven bytes that are missing
abbrev key_of_b : SortKey
key_of_b = record { front = 66 * 256 ^ 7; number = 0 }

abbrev key_of_a : SortKey
key_of_a = record { front = 65 * 256 ^ 7; number = 1 }

keys_of_two : AreKeysOf two (key_of_b ∷ key_of_a ∷ [])
keys_of_two = record {
  fronts = (refl, (refl, tt));
  within = (leb-true 1 2 refl, (leb-true 2 2 refl, tt));
  all = refl;
}

bytes_of_key : key_bytes two key_of_b ≡ 66 * 256 ^ 7 ∷ codes "B"
bytes_of_key = refl

first_keys : (comes_first two key_of_a key_of_b ≡ true)
    × (comes_first two key_of_b key_of_a ≡ false)
first_keys = (refl, refl)

-- `B: 1` where bodies count as canonical text, and none is refused
abbrev sample : Rules
sample =
    record {
      refusal = λ name body. None;
      canonical = λ name body. body;
      required = [];
      single = false;
    }

text_of_field : (text_under sample (get_or two 0 no_field) ≡ codes "B: 1\n")
    × (body_text [] ≡ codes ":\n")
text_of_field = (refl, refl)

-- What the code's table of fields means, and which of its names a line begins with. Debian Policy
-- 5.1.
use Rattle.std.specs.Prelude.{◌≡◌, ℕ, ◌+◌, ◌-◌, ◌*◌, ◌/◌, ◌%◌, ◌^◌, ◌<◌, Bool, List, [], ◌∷◌, ◌++◌, length, map, take, get_or, nat_le, nat_lt, slice_index, replicate, true, false, codes, refl}
use Rattle.std.specs.Int.{from_le_bytes, w32}
use Rattle.std.specs.List.{list_all, list_any, range_with_len}
use Rattle.std.specs.Str.{bytes_eq}
use Rattle.std.proofs.lemmas.Bool.{ltb-true}
use Rattle.deb_base.specs.FieldNames.{colon, is_name}
use Rattle.deb_base.specs.Names.{canonical_name}
use Rattle.deb_base.specs.Kinds.{FieldRow, known_fields, known_row, row_count}
use Rattle.deb_base.specs.declared.kind.Kind.{Kind}
use Rattle.deb_base.specs.declared.kind.Kind.TheVariants.{Number, Text}
use Rattle.deb_base.specs.declared.known_fields.FieldId.{FieldId}
use Rattle.deb_base.specs.declared.known_fields.NameAtFront.{NameAtFront}
use Rattle.deb_base.specs.declared.known_fields.Row.{Row}

-- the number of a field's row, or a number after that of the last row
abbrev pub row_of : FieldId → ℕ
row_of id = id.0

-- what a row of the code's table has: the name with its colon, filled up, its canonical spelling,
-- and the kind
abbrev pub row_in : Row → List ℕ × (List ℕ × Kind)
row_in row = (row.filled, (row.canonical.now, row.kind))

-- A name begins the line, with a colon after it, and the id is that of its row.
pub record IsAtFront (line : List ℕ) (front : NameAtFront) : Type 0 where
  pub within : front.len < length line
  pub colon : slice_index line front.len ≡ colon
  pub name : is_name (take front.len line) ≡ true
  pub id : row_of front.id ≡ known_row (take front.len line)

-- whether the line begins with the row's name, as the table spells it, and a colon
abbrev pub begins_with_row : List ℕ → FieldRow → Bool
begins_with_row line row = bytes_eq (take (length row.0 + 1) line) (row.0 ++ codes ":")

-- whether the line begins so with the name of any row
unfoldable pub begins_with_known : List ℕ → Bool
begins_with_known line = list_any (begins_with_row line) known_fields

-- the row's name with a colon, filled up with hyphens to 32 bytes
abbrev pub filled : FieldRow → List ℕ
filled row = row.0 ++ 58 ∷ replicate (31 - length row.0) 45

-- what the code's row of a field has
abbrev pub row_for : FieldRow → List ℕ × (List ℕ × Kind)
row_for row = (filled row, (canonical_name row.0, row.1))

-- a number below 128 for four bytes
abbrev pub front_number : List ℕ → ℕ
front_number bytes = from_le_bytes w32 bytes * 4947 % 2 ^ 32 / 2 ^ 25

-- what a table has for the first four bytes of a row's name and its colon
abbrev pub likely_for : List ℕ → ℕ → ℕ
likely_for table row =
    get_or table (front_number ((get_or known_fields row ([], Text)).0 ++ codes ":")) 0

-- whether the test holds of each row and what the table has for it
abbrev pub is_likely_table : (ℕ → ℕ → Bool) → List ℕ → Bool
is_likely_table test table =
    list_all (λ row. test row (likely_for table row)) (range_with_len 0 row_count)

-- Worked cases.

row_of_field : row_of (record { 0 = 43 }) ≡ 43
row_of_field = refl

-- a row with another canonical spelling
row_of_table :
    row_in (record {
      filled = codes "SHA1:---------------------------";
      canonical = record { ref_ptr = (0, 0); now = codes "Sha1" };
      kind = Text;
    }) ≡ row_for (codes "SHA1", Text)
row_of_table = refl

name_at_front : IsAtFront (codes "Size: 1")
    (record { id = record { 0 = known_row (codes "Size") }; len = 4 })
unfolding known_row
name_at_front = record {
  within = ltb-true 4 7 refl;
  colon = refl;
  name = refl;
  id = refl;
}

known_names : map begins_with_known
    (codes "Architecture:" ∷ codes "Size: 1" ∷ codes "SHA1:a" ∷ codes "Build-Depends-Arch: a"
    ∷ codes "Status: 1" ∷ codes "Version:" ∷ [])
    ≡ true ∷ true ∷ true ∷ true ∷ true ∷ true ∷ []
unfolding begins_with_known
known_names = refl

-- spelled otherwise, without the colon, with a blank before it, not in the table, longer or shorter
-- than a name of the table, after a blank, only a colon, empty
other_lines : map begins_with_known
    (codes "size: 1" ∷ codes "SIZE: 1" ∷ codes "Size" ∷ codes "Size : 1" ∷ codes "Statu: 1"
    ∷ codes "Sizes: 1" ∷ codes "Siz: 1" ∷ codes " Size: 1" ∷ codes ":" ∷ [] ∷ [])
    ≡ false ∷ false ∷ false ∷ false ∷ false ∷ false ∷ false ∷ false ∷ false ∷ false ∷ []
unfolding begins_with_known
other_lines = refl

filled_names : map filled ((codes "Size", Number) ∷ (codes "Build-Conflicts-Indep", Number) ∷ [])
    ≡ codes "Size:---------------------------" ∷ codes "Build-Conflicts-Indep:----------" ∷ []
filled_names = refl

-- of the bytes 83, 105, 122 and 101, and of 70, 105, 108 and 101
numbers_of_fronts : map front_number (codes "Size" ∷ codes "File" ∷ []) ≡ 126 ∷ 118 ∷ []
numbers_of_fronts = refl

-- an empty table has 0 for each row: no row is before it, and the first one isn't after it
likely_tables : (is_likely_table nat_lt [] ≡ false)
    × (is_likely_table (λ row likely. nat_le likely row) [] ≡ true)
    × (is_likely_table (λ row likely. nat_lt likely row) [] ≡ false)
likely_tables = (refl, refl, refl)

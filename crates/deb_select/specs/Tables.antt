-- The table of some fields of the paragraphs that are selected: this project's own.
use Rattle.std.specs.Prelude.{◌≡◌, ℕ, ◌-◌, ◌/◌, ◌%◌, ◌+◌, ◌==◌, ◌||◌, ◌&&◌, not, Bool, true, false}
use Rattle.std.specs.Prelude.{cond, is_some, nat_lt, List, [], ◌∷◌, ◌++◌, Option, None, Some, codes}
use Rattle.std.specs.Prelude.{refl}
use Rattle.std.specs.List.{flat_map, list_all}
use Rattle.deb_version.specs.Places.{version_in}
use Rattle.deb_field.specs.Values.{ValueMeaning, NameMeans, NumberMeans, TextMeans, VersionMeans}
use Rattle.deb_field.specs.Values.{value_text}
use Rattle.deb_control.specs.Documents.{Meaning}
use Rattle.deb_control.specs.FieldWords.{value_under}
use Rattle.deb_control.specs.ValueFiles.{ValueEntries}
use Rattle.deb_select.specs.Conditions.{IsPresent, SelectionMeaning, selected}

-- the hexadecimal digit of a number below 16: 48 is `0`, 97 is `a`
abbrev pub hex_digit : ℕ → ℕ
hex_digit n = cond (nat_lt n 10) (48 + n) (97 + (n - 10))

-- A byte in a cell: a tab (9), a newline (10), a backslash (92), every other byte below 32, and 127
-- are written as two or four bytes that begin with a backslash.
abbrev pub cell_byte : ℕ → List ℕ
cell_byte b =
    cond (b == 9) (codes "\\t")
    (cond (b == 10) (codes "\\n")
    (cond (b == 92) (codes "\\\\")
    (cond (nat_lt b 32 || (b == 127))
    (92 ∷ 120 ∷ hex_digit (b / 16) ∷ hex_digit (b % 16) ∷ []) (b ∷ []))))

-- whether a byte in a cell is written as it is
abbrev pub is_plain : ℕ → Bool
is_plain b = not (nat_lt b 32) && (not (b == 92) && not (b == 127))

-- the canonical text of a value, and nothing of a field that is absent
abbrev pub cell : Option ValueMeaning → List ℕ
cell None = []
cell (Some value) = flat_map cell_byte (value_text value)

-- the cells of a paragraph, with a tab between two of them
abbrev pub more_cells : List (List ℕ) → ValueEntries ValueMeaning → List ℕ
more_cells [] values = []
more_cells (name ∷ names) values =
    9 ∷ (cell (value_under name values) ++ more_cells names values)

abbrev pub row : List (List ℕ) → ValueEntries ValueMeaning → List ℕ
row [] values = []
row (name ∷ names) values = cell (value_under name values) ++ more_cells names values

-- the table: one line for each paragraph
abbrev pub table : List (List ℕ) → Meaning → List ℕ
table names [] = []
table names (values ∷ meaning) = row names values ++ 10 ∷ table names meaning

-- The table of the paragraphs that are selected.
abbrev pub table_text : List (List ℕ) → SelectionMeaning → Meaning → List ℕ
table_text names selection meaning = table names (selected selection meaning)

-- whether a paragraph has all of the fields, and whether all that are selected do
abbrev pub has_fields : List (List ℕ) → ValueEntries ValueMeaning → Bool
has_fields names values = list_all (λ name. is_some (value_under name values)) names

abbrev pub is_full : List (List ℕ) → SelectionMeaning → Meaning → Bool
is_full names selection meaning = list_all (has_fields names) (selected selection meaning)

-- two paragraphs, of which one has a description of two lines and no size
abbrev aa : ValueEntries ValueMeaning
aa =
    (codes "Description", TextMeans (codes "a\tb\\\n c"))
    ∷ (codes "Package", NameMeans (codes "aa"))
    ∷ (codes "Version", VersionMeans (version_in (codes "0:1.00"))) ∷ []

abbrev bb : ValueEntries ValueMeaning
bb = (codes "Package", NameMeans (codes "bb")) ∷ (codes "Size", NumberMeans 7) ∷ []

worked-table : (table (codes "package" ∷ codes "Version" ∷ codes "Size" ∷ []) (aa ∷ bb ∷ [])
    ≡ codes "aa\t1.0\t\nbb\t\t7\n")
    × (table (codes "Description" ∷ []) (aa ∷ bb ∷ []) ≡ codes "a\\tb\\\\\\n c\n\n")
    × (flat_map cell_byte (0 ∷ 31 ∷ 32 ∷ 127 ∷ 195 ∷ 188 ∷ [])
    ≡ codes "\\x00\\x1f \\x7f" ++ 195 ∷ 188 ∷ [])
worked-table = (refl, refl, refl)

worked-plain : (is_plain 31 ≡ false) × (is_plain 32 ≡ true) × (is_plain 92 ≡ false)
    × (is_plain 127 ≡ false) × (is_plain 195 ≡ true)
worked-plain = (refl, refl, refl, refl, refl)

worked-full : (is_full (codes "Package" ∷ []) (record { conditions = []; negated = false })
    (aa ∷ bb ∷ []) ≡ true)
    × (is_full (codes "Package" ∷ codes "Size" ∷ [])
    (record { conditions = []; negated = false }) (aa ∷ bb ∷ []) ≡ false)
worked-full = (refl, refl)

abbrev by_size : Bool → SelectionMeaning
by_size negated = record {
  conditions = record { name = codes "Size"; test = IsPresent } ∷ [];
  negated = negated;
}

worked-text : (table_text (codes "Package" ∷ codes "Size" ∷ []) (by_size false) (aa ∷ bb ∷ [])
    ≡ codes "bb\t7\n")
    × (table_text (codes "Package" ∷ codes "Size" ∷ []) (by_size true) (aa ∷ bb ∷ [])
    ≡ codes "aa\t\n")
    × (table_text [] (by_size false) (aa ∷ bb ∷ []) ≡ codes "\n")
worked-text = (refl, refl, refl)

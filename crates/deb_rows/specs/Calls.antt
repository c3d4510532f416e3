-- What the public call promises.
use Rattle.std.specs.Prelude.{◌≡◌, ℕ, ◌<◌, ◌≤◌, List, [], ◌∷◌, ◌++◌, codes, drop, length, replicate, refl}
use Rattle.std.proofs.Common.{arith}
use Rattle.deb_rows.specs.Rows.{HasRows, RowText, row, span, table_of}
use Rattle.deb_rows.specs.declared.form.Form.{Form}
use Rattle.deb_rows.specs.declared.form.Form.TheVariants.{Report}
use Rattle.deb_rows.specs.declared.kind.RowKind.TheVariants.{Met}
use Rattle.deb_rows.specs.declared.row.Row.{Row}
use Rattle.deb_rows.specs.declared.row.Span.{Span}

-- The table starts with the rows of the text, and is else as it was; their number is returned.
pub record Reads (form : Form) (text : List ℕ) (before after : List Row) (count : ℕ) : Type 0 where
  pub rows : List RowText
  pub read : HasRows form text rows
  pub fits : length rows ≤ length before
  pub table : after ≡ table_of rows ++ drop (length rows) before
  pub counted : count ≡ length rows

-- The text has more rows than the table, which is as it was; their number is returned.
pub record LacksRoom (form : Form) (text : List ℕ) (before after : List Row) (count : ℕ)
    : Type 0 where
  pub rows : List RowText
  pub read : HasRows form text rows
  pub short : length before < length rows
  pub kept : after ≡ before
  pub counted : count ≡ length rows

-- The text has no rows of this form; the table is as it was, and no number is returned.
pub record IsOther (form : Form) (text : List ℕ) (before after : List Row) (count : ℕ)
    : Type 0 where
  pub other : (rows : List RowText) → HasRows form text rows → ⊥
  pub kept : after ≡ before
  pub none : count ≡ 0

-- What a scan of a text finds: its rows, which are in the table if it has room for all of them.
pub record Scans (form : Form) (text : List ℕ) (before after : List Row) (count : ℕ) : Type 0 where
  pub rows : List RowText
  pub read : HasRows form text rows
  pub table : length rows ≤ length before → after ≡ table_of rows ++ drop (length rows) before
  pub counted : count ≡ length rows

-- Worked cases: a text of one row, in a table of two entries and in none.

abbrev places : List Span
places = replicate 10 (span 0 0)

abbrev entry : ℕ → Row
entry kind = record { kind = kind; cell_count = 0; cells = places }

abbrev met : RowText
met = row Met (codes "a" ∷ [])

one_row : HasRows Report (codes "met a\n") (met ∷ [])
one_row = record { allowed = (record { kind = refl; cells = refl }, tt); printed = refl }

read : Reads Report (codes "met a\n") (entry 8 ∷ entry 9 ∷ [])
    (record { kind = 0; cell_count = 1; cells = span 4 1 ∷ drop 1 places } ∷ entry 9 ∷ []) 1
read =
    record {
      rows = met ∷ [];
      read = one_row;
      fits = omega arith;
      table = refl;
      counted = refl;
    }

no_room : LacksRoom Report (codes "met a\n") [] [] 1
no_room =
    record { rows = met ∷ []; read = one_row; short = omega arith; kept = refl; counted = refl }

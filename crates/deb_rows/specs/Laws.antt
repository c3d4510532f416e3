-- The laws of rows: a text has one list of rows, and the spans of a table name exactly its cells.
use Rattle.std.specs.Prelude.{◌≡◌, ℕ, List, [], ◌∷◌, codes, drop, map, refl, take}
use Rattle.deb_rows.specs.Rows.{HasRows, RowText, row, span, table_of}
use Rattle.deb_rows.specs.declared.form.Form.{Form}
use Rattle.deb_rows.specs.declared.kind.RowKind.TheVariants.{Met, Package}
use Rattle.deb_rows.specs.declared.row.Row.{Row}
use Rattle.deb_rows.specs.declared.row.Span.{Span}

-- Printing is one-to-one: rows that print to the same text are the same.
abbrev pub OneText : Type 0
OneText =
    (form : Form) (text : List ℕ) (rows others : List RowText) → HasRows form text rows
    → HasRows form text others → rows ≡ others

-- the part of a text that a span names
abbrev pub part : List ℕ → Span → List ℕ
part text span = take span.length (drop span.start text)

-- the parts that are the cells of an entry
abbrev pub cells_in : List ℕ → Row → List (List ℕ)
cells_in text entry = map (part text) (take entry.cell_count entry.cells)

abbrev pub cells_of : RowText → List (List ℕ)
cells_of row = row.cells

-- The spans in the table name exactly the cells, in their order.
abbrev pub SpansNameCells : Type 0
SpansNameCells =
    (form : Form) (text : List ℕ) (rows : List RowText) → HasRows form text rows
    → map (cells_in text) (table_of rows) ≡ map cells_of rows

-- Worked cases.

parts : (part (codes "abcd") (span 1 2) ≡ codes "bc") × (part (codes "abcd") (span 4 0) ≡ [])
parts = (refl, refl)

cells : map (cells_in (codes "met a\n 1 b 2 all\n"))
    (table_of (row Met (codes "a" ∷ [])
    ∷ row Package (codes "1" ∷ codes "b" ∷ codes "2" ∷ codes "all" ∷ []) ∷ []))
    ≡ (codes "a" ∷ []) ∷ (codes "1" ∷ codes "b" ∷ codes "2" ∷ codes "all" ∷ []) ∷ []
cells = refl

rows_by_cells : map cells_of (row Met (codes "a" ∷ []) ∷ []) ≡ (codes "a" ∷ []) ∷ []
rows_by_cells = refl

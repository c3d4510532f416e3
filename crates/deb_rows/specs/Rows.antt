-- The rows of a text that this library writes: what a line says, how it is printed, and where its
-- cells then are. The forms are this project's own.
use Rattle.std.specs.Prelude.{◌≡◌, ℕ, ◌+◌, ◌&&◌, Bool, true, false, List, [], ◌∷◌, ◌++◌, length, map, replicate, slice_set, codes, refl}
use Rattle.deb_rows.specs.Cells.{is_cell}
use Rattle.deb_rows.specs.Kinds.{Piece, form_of, front_of, number_of, pieces_of}
use Rattle.deb_rows.specs.declared.form.Form.{Form}
use Rattle.deb_rows.specs.declared.form.Form.TheVariants as form
use Rattle.deb_rows.specs.declared.kind.RowKind.{RowKind}
use Rattle.deb_rows.specs.declared.kind.RowKind.TheVariants as kind
use Rattle.deb_rows.specs.declared.row.Row.{Row}
use Rattle.deb_rows.specs.declared.row.Span.{Span}

-- what a line says
pub record RowText : Type 0 where
  pub kind : RowKind
  pub cells : List (List ℕ)

-- ---- its line

-- cells, each with the text after it
abbrev pub cells_text : List Piece → List (List ℕ) → List ℕ
cells_text [] cells = []
cells_text (piece ∷ pieces) [] = []
cells_text (piece ∷ pieces) (cell ∷ cells) = cell ++ (piece.1 ++ cells_text pieces cells)

-- the line of a row, with its newline
abbrev pub row_line : RowText → List ℕ
row_line row = front_of row.kind ++ cells_text (pieces_of row.kind) row.cells

-- the lines of rows
abbrev pub rows_text : List RowText → List ℕ
rows_text [] = []
rows_text (row ∷ rows) = row_line row ++ rows_text rows

-- ---- which rows a text has

-- whether there is a cell for each piece, of its class, and no other
abbrev pub are_cells : List Piece → List (List ℕ) → Bool
are_cells [] [] = true
are_cells [] (cell ∷ cells) = false
are_cells (piece ∷ pieces) [] = false
are_cells (piece ∷ pieces) (cell ∷ cells) = is_cell piece.0 cell && are_cells pieces cells

-- A text of this form may have the row.
pub record IsRow (form : Form) (row : RowText) : Type 0 where
  pub kind : form_of row.kind ≡ form
  pub cells : are_cells (pieces_of row.kind) row.cells ≡ true

abbrev pub AreRows : Form → List RowText → Type 0
AreRows form [] = Unit {0}
AreRows form (row ∷ rows) = IsRow form row × AreRows form rows

-- The text has these rows: it is exactly their lines, in this order.
pub record HasRows (form : Form) (text : List ℕ) (rows : List RowText) : Type 0 where
  pub allowed : AreRows form rows
  pub printed : text ≡ rows_text rows

-- ---- the table

abbrev pub span : ℕ → ℕ → Span
span start length = record { start = start; length = length }

-- where the cells are, if the first one begins at this offset
abbrev pub spans_of : ℕ → List Piece → List (List ℕ) → List Span
spans_of at [] cells = []
spans_of at (piece ∷ pieces) [] = []
spans_of at (piece ∷ pieces) (cell ∷ cells) =
    span at (length cell) ∷ spans_of (at + (length cell + length piece.1)) pieces cells

-- these spans, one after the other, in place of those from the i-th on
abbrev pub placed : ℕ → List Span → List Span → List Span
placed i places [] = places
placed i places (one ∷ more) = placed (i + 1) (slice_set places i one) more

-- places for ten cells, in which there is none
abbrev pub no_cells : List Span
no_cells = replicate 10 (span 0 0)

-- the entry of a row whose line begins at this offset
abbrev pub row_at : ℕ → RowText → Row
row_at start row =
    record {
      kind = number_of row.kind;
      cell_count = length (pieces_of row.kind);
      cells = placed 0 no_cells
          (spans_of (start + length (front_of row.kind)) (pieces_of row.kind) row.cells);
    }

-- the table of the rows of a text, from this offset on
abbrev pub table_at : ℕ → List RowText → List Row
table_at start [] = []
table_at start (row ∷ rows) = row_at start row ∷ table_at (start + length (row_line row)) rows

abbrev pub table_of : List RowText → List Row
table_of rows = table_at 0 rows

-- ---- worked cases

abbrev pub row : RowKind → List (List ℕ) → RowText
row kind cells = record { kind = kind; cells = cells }

-- a line of each kind; the numbers are those of lines as the program prints them

groups : (row_line (row kind.Met (codes "vv (>= 2) | ww" ∷ [])) ≡ codes "met vv (>= 2) | ww\n")
    × (row_line (row kind.Unmet (codes "dd" ∷ [])) ≡ codes "unmet dd\n")
    × (row_line (row kind.Ignored (codes "bb [!amd64]" ∷ [])) ≡ codes "ignored bb [!amd64]\n")
groups = (refl, refl, refl)

packages : row_line (row kind.Package
    (codes "2" ∷ codes "world" ∷ codes "1:1.0" ∷ codes "all" ∷ []))
    ≡ codes " 2 world 1:1.0 all\n"
packages = refl

reasons : (row_line (row kind.Reason (codes "dd" ∷ codes "no package has this name" ∷ []))
    ≡ codes " dd: no package has this name\n")
    × (row_line (row kind.PackageReason
    (codes "vv (>= 3)" ∷ codes "2" ∷ codes "world" ∷ codes "1.0" ∷ codes "all"
    ∷ codes "isn't Multi-Arch: allowed" ∷ []))
    ≡ codes " vv (>= 3): 2 world 1.0 all isn't Multi-Arch: allowed\n")
reasons = (refl, refl)

-- with the place of the file, which is no part of the reason
files : (row_line (row kind.PackageOfFile
    (codes "2" ∷ codes "world" ∷ codes "1:1.0" ∷ codes "all" ∷ codes "3" ∷ []))
    ≡ codes " 2 world 1:1.0 all @3\n")
    × (row_line (row kind.PackageReasonOfFile
    (codes "vv (>= 3)" ∷ codes "2" ∷ codes "world" ∷ codes "1.0" ∷ codes "all"
    ∷ codes "is earlier" ∷ codes "12" ∷ []))
    ≡ codes " vv (>= 3): 2 world 1.0 all is earlier @12\n")
    × (are_cells (pieces_of kind.PackageReason)
    (codes "vv" ∷ codes "2" ∷ codes "world" ∷ codes "1.0" ∷ codes "all" ∷ codes "is earlier @1"
    ∷ []) ≡ false)
files = (refl, refl, refl)

unmet_groups : (row_line (row kind.UnmetGroup
    (codes "4735" ∷ codes "aa" ∷ codes "1.221" ∷ codes "all" ∷ codes "Depends" ∷ codes "b | c"
    ∷ [])) ≡ codes "unmet 4735 aa 1.221 all Depends b | c\n")
    × (row_line (row kind.UnsureGroup
    (codes "812" ∷ codes "qemu" ∷ codes "1:7.2" ∷ codes "source" ∷ codes "Build-Depends"
    ∷ codes "pp [linux-amd64]" ∷ []))
    ≡ codes "unsure 812 qemu 1:7.2 source Build-Depends pp [linux-amd64]\n")
unmet_groups = (refl, refl)

changes : (row_line (row kind.Removed
    (codes "12" ∷ codes "gone" ∷ codes "2.10-2" ∷ codes "amd64" ∷ []))
    ≡ codes "removed 12 gone 2.10-2 amd64\n")
    × (row_line (row kind.Changed
    (codes "20" ∷ codes "world" ∷ codes "1.0" ∷ codes "all" ∷ codes "Depends Size" ∷ []))
    ≡ codes "changed 20 world 1.0 all Depends Size\n")
    × (row_line (row kind.Upgraded
    (codes "15" ∷ codes "hello" ∷ codes "2.10-2" ∷ codes "2.10-3" ∷ codes "amd64"
    ∷ codes "Version" ∷ [])) ≡ codes "upgraded 15 hello 2.10-2 2.10-3 amd64 Version\n")
    × (row_line (row kind.Downgraded
    (codes "15" ∷ codes "hello" ∷ codes "2.10-3" ∷ codes "2.10-2" ∷ codes "amd64"
    ∷ codes "Version" ∷ [])) ≡ codes "downgraded 15 hello 2.10-3 2.10-2 amd64 Version\n")
    × (row_line (row kind.Added
    (codes "14" ∷ codes "fresh" ∷ codes "2.10-3" ∷ codes "amd64" ∷ []))
    ≡ codes "added 14 fresh 2.10-3 amd64\n")
changes = (refl, refl, refl, refl, refl)

values : (row_line (row kind.OldLine (codes "Depends: aa, bb" ∷ [])) ≡ codes " -Depends: aa, bb\n")
    × (row_line (row kind.NewLine (codes " a line" ∷ [])) ≡ codes " + a line\n")
values = (refl, refl)

explanations : (row_line (row kind.Key (codes "value" ∷ codes "a: b" ∷ [])) ≡ codes "value: a: b\n")
    × (row_line (row kind.End []) ≡ codes "\n")
    × (row_line (row kind.Count (codes "12" ∷ [])) ≡ codes "ok 12\n")
    × (row_line (row kind.Summary (codes "2" ∷ codes "1" ∷ [])) ≡ codes "ok 2, 1 refused\n")
    × (row_line (row kind.Valid []) ≡ codes "ok\n")
explanations = (refl, refl, refl, refl, refl)

needs_of_sets : (row_line (row kind.UnmetNeed
    (codes "1" ∷ codes "aa" ∷ codes "1" ∷ codes "amd64" ∷ codes "Depends" ∷ codes "b | by" ∷ []))
    ≡ codes "unmet 1 aa 1 amd64 Depends b | by\n")
    × (row_line (row kind.UnsureNeed
    (codes "1" ∷ codes "aa" ∷ codes "1" ∷ codes "all" ∷ codes "Depends" ∷ codes "b [any]" ∷ []))
    ≡ codes "unsure 1 aa 1 all Depends b [any]\n")
needs_of_sets = (refl, refl)

conflicts : (row_line (row kind.Conflict
    (codes "1" ∷ codes "aa" ∷ codes "1" ∷ codes "amd64" ∷ codes "Conflicts" ∷ codes "mm (<< 2)"
    ∷ codes "2" ∷ codes "cc" ∷ codes "3" ∷ codes "all" ∷ []))
    ≡ codes "conflict 1 aa 1 amd64 Conflicts mm (<< 2) by 2 cc 3 all\n")
    × (row_line (row kind.UnsureConflict
    (codes "2" ∷ codes "cc" ∷ codes "2" ∷ codes "all" ∷ codes "Breaks" ∷ codes "aa [linux-any]"
    ∷ codes "1" ∷ codes "aa" ∷ codes "1" ∷ codes "amd64" ∷ []))
    ≡ codes "unsure 2 cc 2 all Breaks aa [linux-any] by 1 aa 1 amd64\n")
    × (row_line (row kind.Duplicate
    (codes "1" ∷ codes "aa" ∷ codes "1" ∷ codes "amd64" ∷ codes "3" ∷ codes "1.1" ∷ codes "i386"
    ∷ [])) ≡ codes "duplicate 1 aa 1 amd64 with 3 1.1 i386\n")
    × (row_line (row kind.State
    (codes "3" ∷ codes "dd" ∷ codes "-" ∷ codes "all" ∷ codes "installed" ∷ []))
    ≡ codes "state 3 dd - all installed\n")
conflicts = (refl, refl, refl, refl)

verdicts : (row_line (row kind.Uninstallable
    (codes "4" ∷ codes "aa" ∷ codes "1:2-1" ∷ codes "amd64" ∷ []))
    ≡ codes "uninstallable 4 aa 1:2-1 amd64\n")
    × (row_line (row kind.Unsure (codes "5" ∷ codes "bb" ∷ codes "1" ∷ codes "all" ∷ []))
    ≡ codes "unsure 5 bb 1 all\n")
    × (row_line (row kind.Undecided (codes "6" ∷ codes "cc" ∷ codes "1.0" ∷ codes "i386" ∷ []))
    ≡ codes "undecided 6 cc 1.0 i386\n")
verdicts = (refl, refl, refl)

reasons_of_verdicts : (row_line (row kind.Need
    (codes "4" ∷ codes "aa" ∷ codes "1:2-1" ∷ codes "amd64" ∷ codes "b (>= 1:2) | cc"
    ∷ codes "59 600" ∷ []))
    ≡ codes " 4 aa 1:2-1 amd64 needs b (>= 1:2) | cc: 59 600\n")
    × (row_line (row kind.Need
    (codes "4" ∷ codes "aa" ∷ codes "1" ∷ codes "all" ∷ codes "dpkg (Essential)" ∷ codes "none"
    ∷ [])) ≡ codes " 4 aa 1 all needs dpkg (Essential): none\n")
    × (row_line (row kind.Exclusion
    (codes "5" ∷ codes "bb" ∷ codes "1" ∷ codes "all" ∷ codes "59" ∷ codes "cc" ∷ codes "2"
    ∷ codes "i386" ∷ [])) ≡ codes " 5 bb 1 all excludes 59 cc 2 i386\n")
    × (row_line (row kind.LeftOut (codes "6" ∷ codes "cc" ∷ codes "1.0" ∷ codes "all" ∷ []))
    ≡ codes " 6 cc 1.0 all is left out\n")
reasons_of_verdicts = (refl, refl, refl, refl)

lines : rows_text (row kind.Met (codes "a" ∷ []) ∷ row kind.Unmet (codes "b" ∷ []) ∷ [])
    ≡ codes "met a\nunmet b\n"
lines = refl

-- a cell for each piece, of its class
cell_lists : map (are_cells (pieces_of kind.Count))
    ((codes "12" ∷ []) ∷ [] ∷ (codes "12" ∷ codes "1" ∷ []) ∷ (codes "a" ∷ []) ∷ [])
    ≡ true ∷ false ∷ false ∷ false ∷ []
cell_lists = refl

-- the rows of a text
rows : HasRows form.Report (codes "unmet b\nmet a\n 3 a 1 all\n")
    (row kind.Unmet (codes "b" ∷ []) ∷ row kind.Met (codes "a" ∷ [])
    ∷ row kind.Package (codes "3" ∷ codes "a" ∷ codes "1" ∷ codes "all" ∷ []) ∷ [])
rows = record {
  allowed = (
    record { kind = refl; cells = refl },
    (
      record { kind = refl; cells = refl },
      (record { kind = refl; cells = refl }, tt),
    ),
  );
  printed = refl;
}

-- where the cells are, the offsets from the text's start
table : table_of (row kind.Met (codes "aa" ∷ [])
    ∷ row kind.Package (codes "3" ∷ codes "aa" ∷ codes "1" ∷ codes "all" ∷ []) ∷ [])
    ≡ record {
      kind = 0;
      cell_count = 1;
      cells = span 4 2 ∷ span 0 0 ∷ span 0 0 ∷ span 0 0 ∷ span 0 0 ∷ span 0 0 ∷ span 0 0 ∷ span 0 0
          ∷ span 0 0 ∷ span 0 0 ∷ [];
    }
    ∷ record {
      kind = 3;
      cell_count = 4;
      cells = span 8 1 ∷ span 10 2 ∷ span 13 1 ∷ span 15 3 ∷ span 0 0 ∷ span 0 0 ∷ span 0 0
          ∷ span 0 0 ∷ span 0 0 ∷ span 0 0 ∷ [];
    } ∷ []
table = refl

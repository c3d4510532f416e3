-- How a row is read at an offset of a text. The proofs show that this finds a row exactly if the
-- text goes on with the line of one.
use Rattle.std.specs.Prelude.{◌≡◌, ℕ, ◌+◌, ◌==◌, ◌&&◌, Bool, cond, List, [], ◌∷◌, drop, length, replicate, slice_set, Option, Some, None, codes, refl}
use Rattle.std.specs.List.{starts_with}
use Rattle.std.specs.Option.{option_and_then, option_map, option_or}
use Rattle.deb_rows.specs.Cells.{cell_of, fits}
use Rattle.deb_rows.specs.Kinds.{Piece, front_of, kinds_of, number_of, pieces_of}
use Rattle.deb_rows.specs.Rows.{no_cells, span}
use Rattle.deb_rows.specs.declared.cell.Class.{Class}
use Rattle.deb_rows.specs.declared.cell.Class.TheVariants.{Alternative, Number}
use Rattle.deb_rows.specs.declared.form.Form.{Form}
use Rattle.deb_rows.specs.declared.form.Form.TheVariants.{Report}
use Rattle.deb_rows.specs.declared.kind.RowKind.{RowKind}
use Rattle.deb_rows.specs.declared.kind.RowKind.TheVariants.{Met, Package, PackageOfFile, PackageReason, PackageReasonOfFile}
use Rattle.deb_rows.specs.declared.line.Found.{Found}
use Rattle.deb_rows.specs.declared.row.Span.{Span}

-- whether a text begins with another
abbrev pub begins_with : List ℕ → List ℕ → Bool
begins_with text front = starts_with (λ a b. a == b) text front

-- the length of the cell at the start of a text, if it is one and this comes after it
unfoldable pub read_cell : Class → List ℕ → List ℕ → Option ℕ
read_cell class after text =
    cond (fits class (cell_of class text)
    && begins_with (drop (length (cell_of class text)) text) after)
    (Some (length (cell_of class text))) None

-- the places of cells that begin at an offset, from the i-th on, and where the line ends
abbrev pub read_cells : List Piece → List ℕ → ℕ → ℕ → List Span → Option (List Span × ℕ)
read_cells [] text at i cells = Some (cells, at)
read_cells (piece ∷ pieces) text at i cells =
    option_and_then
    (λ n. read_cells pieces text (at + (n + length piece.1)) (i + 1)
    (slice_set cells i (span at n)))
    (read_cell piece.0 piece.1 (drop at text))

-- a row of a kind, and where the next line begins
abbrev pub found : RowKind → List Span × ℕ → Found
found kind read =
    record {
      row = record {
        kind = number_of kind;
        cell_count = length (pieces_of kind);
        cells = read.0;
      };
      next = read.1;
    }

-- the row of this kind whose line begins at an offset
abbrev pub read_kind : RowKind → List ℕ → ℕ → Option Found
read_kind kind text start =
    cond (begins_with (drop start text) (front_of kind))
    (option_map (found kind)
    (read_cells (pieces_of kind) text (start + length (front_of kind)) 0 no_cells))
    None

-- the row of the first of these kinds
abbrev pub read_first : List RowKind → List ℕ → ℕ → Option Found
read_first [] text start = None
read_first (kind ∷ kinds) text start =
    option_or (read_kind kind text start) (read_first kinds text start)

abbrev pub read_row : Form → List ℕ → ℕ → Option Found
read_row form text start = read_first (kinds_of form) text start

-- Worked cases.

cells_read : (read_cell Number (codes " ") (codes "12 a") ≡ Some 2)
    × (read_cell Number (codes ", ") (codes "12 a") ≡ None)
    × (read_cell Number (codes " ") (codes " a") ≡ None)
    × (read_cell Alternative (codes ": ") (codes "a:b: c") ≡ Some 3)
unfolding read_cell
cells_read = (refl, refl, refl, refl)

-- a row, at an offset; none, where the line has another form; none, where it has no newline
rows_read : (read_row Report (codes "met a\nmet b c\n") 6
    ≡ Some (found Met (span 10 3 ∷ replicate 9 (span 0 0), 14)))
    × (read_row Report (codes " 1 b 2 all\n") 0
    ≡ Some (found Package
    (span 1 1 ∷ span 3 1 ∷ span 5 1 ∷ span 7 3 ∷ replicate 6 (span 0 0), 11)))
    × (read_row Report (codes "removed 1 a 1 all\n") 0 ≡ None)
    × (read_row Report (codes "met a") 0 ≡ None)
unfolding read_cell
rows_read = (refl, refl, refl, refl)

-- with the place of the file and without it; none, where that is 0
files_read : (read_row Report (codes " 1 b 2 all @12\n") 0
    ≡ Some (found PackageOfFile
    (span 1 1 ∷ span 3 1 ∷ span 5 1 ∷ span 7 3 ∷ span 12 2 ∷ replicate 5 (span 0 0), 15)))
    × (read_row Report (codes " a: 1 b 2 all is later @3\n") 0
    ≡ Some (found PackageReasonOfFile (
      span 1 1 ∷ span 4 1 ∷ span 6 1 ∷ span 8 1 ∷ span 10 3 ∷ span 14 8 ∷ span 24 1
          ∷ replicate 3 (span 0 0),
      26,
    )))
    × (read_row Report (codes " a: 1 b 2 all is later\n") 0
    ≡ Some (found PackageReason (
      span 1 1 ∷ span 4 1 ∷ span 6 1 ∷ span 8 1 ∷ span 10 3 ∷ span 14 8
          ∷ replicate 4 (span 0 0),
      23,
    )))
    × (read_row Report (codes " 1 b 2 all @0\n") 0 ≡ None)
unfolding read_cell
files_read = (refl, refl, refl, refl)

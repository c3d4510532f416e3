-- One cell of a line, and one kind of a form, after the other.
use Rattle.std.proofs.Common.{◌≡◌, ◌<◌, ◌+◌, ◌-◌, ◌≤◌, ℕ, List, length, take, drop, get_or, map, sym, ap, ◌∙◌, Some, None, Bor, drop_of_length-le}
use Rattle.std.specs.Prelude.{Option, slice_set}
use Rattle.std.specs.Option.{option_and_then, option_or}
use Rattle.std.proofs.lemmas.List.{drop-map, drop_more, take_rest}
use Rattle.deb_rows.specs.Kinds.{Piece, piece_in}
use Rattle.deb_rows.specs.Reads.{read_cell, read_cells, read_first, read_kind}
use Rattle.deb_rows.specs.Rows.{span}
use Rattle.deb_rows.specs.declared.cell.Class.{Class}
use Rattle.deb_rows.specs.declared.kind.RowKind.{RowKind}
use Rattle.deb_rows.specs.declared.row.Span.{Span}

abbrev Pieces : Type 0
Pieces = List (Class × Bor (List ℕ))

-- what follows the first piece that is left
abbrev after_cell : List Piece → ℕ → List ℕ → ℕ → ℕ → List Span → ℕ → Option (List Span × ℕ)
after_cell pieces length text at i cells n = read_cells pieces text (at + (n + length)) (i + 1) (slice_set cells i (span at n))

next_piece : (pieces : Pieces) (text : List ℕ) (at i : ℕ) (cells : List Span) (d : Class × Bor (List ℕ)) → i < length pieces
    → read_cells (drop i (map piece_in pieces)) text at i cells
    ≡ option_and_then (after_cell (drop (i + 1) (map piece_in pieces)) (length (get_or pieces i d).1.now) text at i cells)
    (read_cell (get_or pieces i d).0 (get_or pieces i d).1.now (take (length text - at) (drop at text)))
next_piece pieces text at i cells d below =
    let x = get_or pieces i d in
    ap (λ ps. read_cells ps text at i cells) (drop-map piece_in i pieces ∙ ap (map piece_in) (drop_more pieces i d below))
    ∙ ap (λ ps. option_and_then (after_cell ps (length x.1.now) text at i cells) (read_cell x.0 x.1.now (drop at text))) (sym (drop-map piece_in (i + 1) pieces))
    ∙ ap (λ rest. option_and_then (after_cell (drop (i + 1) (map piece_in pieces)) (length x.1.now) text at i cells) (read_cell x.0 x.1.now rest)) (sym (take_rest text at))

-- a cell is read
pub cell_read : (pieces : Pieces) (text : List ℕ) (at i : ℕ) (cells : List Span) (d : Class × Bor (List ℕ)) (n : ℕ) → i < length pieces
    → Some n ≡ read_cell (get_or pieces i d).0 (get_or pieces i d).1.now (take (length text - at) (drop at text))
    → read_cells (drop i (map piece_in pieces)) text at i cells
    ≡ read_cells (drop (i + 1) (map piece_in pieces)) text (at + (n + length (get_or pieces i d).1.now)) (i + 1) (slice_set cells i (span at n))
cell_read pieces text at i cells d n below e =
    next_piece pieces text at i cells d below
    ∙ ap (option_and_then (after_cell (drop (i + 1) (map piece_in pieces)) (length (get_or pieces i d).1.now) text at i cells)) (sym e)

-- or none
pub no_cell_read : (pieces : Pieces) (text : List ℕ) (at i : ℕ) (cells : List Span) (d : Class × Bor (List ℕ)) → i < length pieces
    → None ≡ read_cell (get_or pieces i d).0 (get_or pieces i d).1.now (take (length text - at) (drop at text))
    → read_cells (drop i (map piece_in pieces)) text at i cells ≡ None
no_cell_read pieces text at i cells d below e =
    next_piece pieces text at i cells d below
    ∙ ap (option_and_then (after_cell (drop (i + 1) (map piece_in pieces)) (length (get_or pieces i d).1.now) text at i cells)) (sym e)

-- all cells are read
pub all_cells_read : (pieces : Pieces) (text : List ℕ) (at i : ℕ) (cells : List Span) → length pieces ≤ i
    → read_cells (drop i (map piece_in pieces)) text at i cells ≡ Some (cells, at)
all_cells_read pieces text at i cells all =
    ap (λ ps. read_cells ps text at i cells) (drop-map piece_in i pieces ∙ ap (map piece_in) (drop_of_length-le pieces all))

-- the next kind, or none
pub kind_read : (kinds : List RowKind) (text : List ℕ) (start i : ℕ) (d : RowKind) → i < length kinds
    → read_first (drop i kinds) text start ≡ option_or (read_kind (get_or kinds i d) text start) (read_first (drop (i + 1) kinds) text start)
kind_read kinds text start i d below = ap (λ ks. read_first ks text start) (drop_more kinds i d below)

pub all_kinds_read : (kinds : List RowKind) (text : List ℕ) (start i : ℕ) → length kinds ≤ i → read_first (drop i kinds) text start ≡ None
all_kinds_read kinds text start i all = ap (λ ks. read_first ks text start) (drop_of_length-le kinds all)

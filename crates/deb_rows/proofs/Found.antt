-- A row is found exactly if the text goes on with the line of one.
use Rattle.std.proofs.Common.{◌≡◌, ◌+◌, ℕ, true, List, [], ◌∷◌, ◌++◌, length, drop, refl, sym, ap, ◌∙◌, subst, arith, length-append, append_assoc}
use Rattle.std.specs.Prelude.{Option, Some, slice_set}
use Rattle.std.specs.Option.{option_and_then, option_map_or}
use Rattle.std.proofs.lemmas.Bool.{and_parts, and_from, false≢true}
use Rattle.std.proofs.lemmas.List.{drop_at, drop-drop}
use Rattle.std.proofs.lemmas.Option.{option_and_then_some}
use Rattle.deb_rows.specs.Cells.{is_cell}
use Rattle.deb_rows.specs.Kinds.{Piece}
use Rattle.deb_rows.specs.Reads.{read_cell, read_cells}
use Rattle.deb_rows.specs.Rows.{are_cells, cells_text, placed, span, spans_of}
use Rattle.deb_rows.specs.declared.row.Span.{Span}
use Rattle.deb_rows.proofs.Ends.{Closes, CellFound, cell_found, cell_is_read}

-- ---- cells

-- what is read of cells
pub record CellsFound (pieces : List Piece) (text : List ℕ) (at i : ℕ) (places : List Span) (out : List Span × ℕ) : Type 0 where
  pub cells : List (List ℕ)
  pub are : are_cells pieces cells ≡ true
  pub begins : drop at text ≡ cells_text pieces cells ++ drop out.1 text
  pub next : out.1 ≡ at + length (cells_text pieces cells)
  pub placed : out.0 ≡ placed i places (spans_of at pieces cells)

no_cells_found : (text : List ℕ) (at i : ℕ) (places : List Span) → CellsFound [] text at i places (places, at)
no_cells_found text at i places = record { cells = []; are = refl; begins = refl; next = omega arith; placed = refl }

more_cells_found : (piece : Piece) (pieces : List Piece) (text : List ℕ) (at i : ℕ) (places : List Span) (out : List Span × ℕ) (n : ℕ)
    → CellFound piece.0 piece.1 (drop at text) n
    → CellsFound pieces text (at + (n + length piece.1)) (i + 1) (slice_set places i (span at n)) out
    → CellsFound (piece ∷ pieces) text at i places out
more_cells_found piece pieces text at i places out n first rest =
    let after = piece.1 in
    let more = cells_text pieces rest.cells in
    record {
      cells = first.cell ∷ rest.cells;
      are = and_from (is_cell piece.0 first.cell) (are_cells pieces rest.cells) first.is rest.are;
      begins =
          first.begins ∙ ap (λ l. first.cell ++ (after ++ l)) (drop-drop (n + length after) at text ∙ rest.begins)
          ∙ ap (λ l. first.cell ++ l) (sym (append_assoc after more (drop out.1 text)))
          ∙ sym (append_assoc first.cell (after ++ more) (drop out.1 text));
      next =
          let a = length-append first.cell (after ++ more) in
          let b = length-append after more in
          omega (arith, rest.next, a, b, first.measured);
      placed =
          rest.placed
          ∙ ap (λ k. placed (i + 1) (slice_set places i (span at k)) (spans_of (at + (k + length after)) pieces rest.cells)) first.measured;
    }

pub cells_found : (pieces : List Piece) (text : List ℕ) (at i : ℕ) (places : List Span) (out : List Span × ℕ)
    → read_cells pieces text at i places ≡ Some out → CellsFound pieces text at i places out
cells_found [] text at i places out e =
    let same : (places, at) ≡ out = ap (λ o. option_map_or (λ x. x) o (places, at)) e in
    subst (λ o. CellsFound [] text at i places o) same (no_cells_found text at i places)
cells_found (piece ∷ pieces) text at i places out e =
    option_and_then_some
    (λ n. read_cells pieces text (at + (n + length piece.1)) (i + 1) (slice_set places i (span at n)))
    (read_cell piece.0 piece.1 (drop at text)) out e
    (λ n read rest.
    more_cells_found piece pieces text at i places out n (cell_found piece.0 piece.1 (drop at text) n read)
    (cells_found pieces text (at + (n + length piece.1)) (i + 1) (slice_set places i (span at n)) out rest))

-- each cell ends before the text after it and the cells that follow
abbrev pub Close : List Piece → Type 0
Close [] = Unit {0}
Close (piece ∷ pieces) =
    ((cells : List (List ℕ)) (more : List ℕ) → are_cells pieces cells ≡ true → Closes piece.0 (piece.1 ++ (cells_text pieces cells ++ more)))
    × Close pieces

pub cells_are_read : (pieces : List Piece) (cells : List (List ℕ)) (text more : List ℕ) (at i : ℕ) (places : List Span)
    → Close pieces → are_cells pieces cells ≡ true → drop at text ≡ cells_text pieces cells ++ more
    → read_cells pieces text at i places ≡ Some (placed i places (spans_of at pieces cells), at + length (cells_text pieces cells))
cells_are_read [] [] text more at i places close are e = ap (λ k. Some (places, k)) (omega arith)
cells_are_read [] (cell ∷ cells) text more at i places close are e = absurd (false≢true are)
cells_are_read (piece ∷ pieces) [] text more at i places close are e = absurd (false≢true are)
cells_are_read (piece ∷ pieces) (cell ∷ cells) text more at i places close are e =
    let after = piece.1 in
    let rest = cells_text pieces cells in
    let n = length cell in
    let parts = and_parts (is_cell piece.0 cell) (are_cells pieces cells) are in
    let begins : drop at text ≡ cell ++ (after ++ (rest ++ more)) =
    e ∙ append_assoc cell (after ++ rest) more ∙ ap (λ l. cell ++ l) (append_assoc after rest more) in
    let whole : cell ++ (after ++ (rest ++ more)) ≡ (cell ++ after) ++ (rest ++ more) = sym (append_assoc cell after (rest ++ more)) in
    let goes_on : drop (at + (n + length after)) text ≡ rest ++ more =
    sym (drop-drop (n + length after) at text) ∙ ap (drop (n + length after)) (begins ∙ whole)
    ∙ drop_at (cell ++ after) (rest ++ more) (n + length after) (length-append cell after) in
    let F : ℕ → Option (List Span × ℕ) = λ n. read_cells pieces text (at + (n + length after)) (i + 1) (slice_set places i (span at n)) in
    let read : read_cell piece.0 after (drop at text) ≡ Some n =
    ap (read_cell piece.0 after) begins ∙ cell_is_read piece.0 cell after (rest ++ more) (close.0 cells more parts.1) parts.0 in
    let lengths : at + (n + length after) + length rest ≡ at + length (cell ++ (after ++ rest)) =
    let a = length-append cell (after ++ rest) in let b = length-append after rest in omega (arith, a, b) in
    ap (option_and_then F) read
    ∙ cells_are_read pieces cells text more (at + (n + length after)) (i + 1) (slice_set places i (span at n)) close.1 parts.1 goes_on
    ∙ ap (λ k. Some (placed (i + 1) (slice_set places i (span at n)) (spans_of (at + (n + length after)) pieces cells), k)) lengths

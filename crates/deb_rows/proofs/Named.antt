-- The spans of a table name exactly the cells.
use Rattle.std.proofs.Common.{◌≡◌, ◌+◌, ◌≤◌, ℕ, true, List, [], ◌∷◌, ◌++◌, length, take, drop, map, refl, sym, ap, ◌∙◌, arith, length-append, append_assoc, append-nil, length-set}
use Rattle.std.specs.Prelude.{slice_set}
use Rattle.std.proofs.lemmas.Bool.{and_parts, false≢true}
use Rattle.std.proofs.lemmas.List.{drop-drop, drop_at, take_at, take_more_set}
use Rattle.deb_rows.specs.Cells.{is_cell}
use Rattle.deb_rows.specs.Kinds.{Piece, front_of, pieces_of}
use Rattle.deb_rows.specs.Laws.{cells_in, cells_of, part}
use Rattle.deb_rows.specs.Rows.{AreRows, HasRows, IsRow, RowText, are_cells, cells_text, no_cells, placed, row_at, row_line, rows_text, spans_of, table_at, table_of}
use Rattle.deb_rows.specs.declared.form.Form.{Form}
use Rattle.deb_rows.specs.declared.kind.RowKind.{RowKind}
use Rattle.deb_rows.specs.declared.kind.RowKind.TheVariants as kind
use Rattle.deb_rows.specs.declared.row.Span.{Span}

spans_name : (text : List ℕ) (pieces : List Piece) (cells : List (List ℕ)) (at : ℕ) (more : List ℕ) → are_cells pieces cells ≡ true
    → drop at text ≡ cells_text pieces cells ++ more → map (part text) (spans_of at pieces cells) ≡ cells
spans_name text [] [] at more are e = refl
spans_name text [] (cell ∷ cells) at more are e = absurd (false≢true are)
spans_name text (piece ∷ pieces) [] at more are e = absurd (false≢true are)
spans_name text (piece ∷ pieces) (cell ∷ cells) at more are e =
    let after = piece.1 in
    let rest = cells_text pieces cells in
    let n = length cell in
    let parts = and_parts (is_cell piece.0 cell) (are_cells pieces cells) are in
    let begins : drop at text ≡ cell ++ (after ++ (rest ++ more)) = e ∙ append_assoc cell (after ++ rest) more ∙ ap (λ l. cell ++ l) (append_assoc after rest more) in
    let whole : cell ++ (after ++ (rest ++ more)) ≡ (cell ++ after) ++ (rest ++ more) = sym (append_assoc cell after (rest ++ more)) in
    let goes_on : drop (at + (n + length after)) text ≡ rest ++ more =
    sym (drop-drop (n + length after) at text) ∙ ap (drop (n + length after)) (begins ∙ whole)
    ∙ drop_at (cell ++ after) (rest ++ more) (n + length after) (length-append cell after) in
    let first : take n (drop at text) ≡ cell = ap (take n) begins ∙ take_at cell (after ++ (rest ++ more)) n refl in
    let others = spans_name text pieces cells (at + (n + length after)) more parts.1 goes_on in
    λ i. first i ∷ others i

length-spans_of : (pieces : List Piece) (cells : List (List ℕ)) (at : ℕ) → are_cells pieces cells ≡ true → length (spans_of at pieces cells) ≡ length pieces
length-spans_of [] cells at are = refl
length-spans_of (piece ∷ pieces) [] at are = absurd (false≢true are)
length-spans_of (piece ∷ pieces) (cell ∷ cells) at are =
    let more = length-spans_of pieces cells (at + (length cell + length piece.1)) (and_parts (is_cell piece.0 cell) (are_cells pieces cells) are).1 in
    omega (arith, more)

take-placed : (spans places : List Span) (i : ℕ) → i + length spans ≤ length places → take (i + length spans) (placed i places spans) ≡ take i places ++ spans
take-placed [] places i room = ap (λ k. take k places) (omega arith) ∙ sym (append-nil (take i places))
take-placed (one ∷ more) places i room =
    let sized = length-set places i one in
    let same : i + 1 + length more ≡ i + length (one ∷ more) = omega arith in
    ap (λ k. take k (placed (i + 1) (slice_set places i one) more)) (sym same)
    ∙ take-placed more (slice_set places i one) (i + 1) (omega (arith, room, sized))
    ∙ ap (λ l. l ++ more) (take_more_set places i one (omega (arith, room)))
    ∙ append_assoc (take i places) (one ∷ []) more

few_pieces : (of : RowKind) → length (pieces_of of) ≤ 10
few_pieces kind.Met = omega arith
few_pieces kind.Unmet = omega arith
few_pieces kind.Ignored = omega arith
few_pieces kind.Package = omega arith
few_pieces kind.Reason = omega arith
few_pieces kind.PackageReason = omega arith
few_pieces kind.UnmetGroup = omega arith
few_pieces kind.UnsureGroup = omega arith
few_pieces kind.Removed = omega arith
few_pieces kind.Changed = omega arith
few_pieces kind.Upgraded = omega arith
few_pieces kind.Added = omega arith
few_pieces kind.OldLine = omega arith
few_pieces kind.NewLine = omega arith
few_pieces kind.Key = omega arith
few_pieces kind.End = omega arith
few_pieces kind.Count = omega arith
few_pieces kind.Summary = omega arith
few_pieces kind.Valid = omega arith
few_pieces kind.Downgraded = omega arith
few_pieces kind.UnmetNeed = omega arith
few_pieces kind.UnsureNeed = omega arith
few_pieces kind.Conflict = omega arith
few_pieces kind.UnsureConflict = omega arith
few_pieces kind.Duplicate = omega arith
few_pieces kind.State = omega arith
few_pieces kind.Uninstallable = omega arith
few_pieces kind.Unsure = omega arith
few_pieces kind.Undecided = omega arith
few_pieces kind.Need = omega arith
few_pieces kind.Exclusion = omega arith
few_pieces kind.LeftOut = omega arith
few_pieces kind.PackageOfFile = omega arith
few_pieces kind.PackageReasonOfFile = omega arith

entry_names : (form : Form) (text : List ℕ) (row : RowText) (start : ℕ) (more : List ℕ) → IsRow form row → drop start text ≡ row_line row ++ more
    → cells_in text (row_at start row) ≡ row.cells
entry_names form text row start more is e =
    let front = front_of row.kind in
    let pieces = pieces_of row.kind in
    let rest = cells_text pieces row.cells in
    let at = start + length front in
    let spans = spans_of at pieces row.cells in
    let goes_on : drop at text ≡ rest ++ more =
    sym (drop-drop (length front) start text) ∙ ap (drop (length front)) (e ∙ append_assoc front rest more) ∙ drop_at front (rest ++ more) (length front) refl in
    let sized = length-spans_of pieces row.cells at is.cells in
    let few = few_pieces row.kind in
    let taken : take (length pieces) (placed 0 no_cells spans) ≡ spans =
    ap (λ k. take k (placed 0 no_cells spans)) (omega (arith, sized)) ∙ take-placed spans no_cells 0 (omega (arith, sized, few)) in
    ap (map (part text)) taken ∙ spans_name text pieces row.cells at more is.cells goes_on

table_names : (form : Form) (text : List ℕ) (rows : List RowText) (start : ℕ) → AreRows form rows → drop start text ≡ rows_text rows
    → map (cells_in text) (table_at start rows) ≡ map cells_of rows
table_names form text [] start are e = refl
table_names form text (row ∷ rows) start are e =
    let n = length (row_line row) in
    let first = entry_names form text row start (rows_text rows) are.0 e in
    let goes_on : drop (start + n) text ≡ rows_text rows =
    sym (drop-drop n start text) ∙ ap (drop n) e ∙ drop_at (row_line row) (rows_text rows) n refl in
    let others = table_names form text rows (start + n) are.1 goes_on in
    λ i. first i ∷ others i

pub spans_name_cells : (form : Form) (text : List ℕ) (rows : List RowText) → HasRows form text rows → map (cells_in text) (table_of rows) ≡ map cells_of rows
spans_name_cells form text rows has = table_names form text rows 0 has.allowed has.printed

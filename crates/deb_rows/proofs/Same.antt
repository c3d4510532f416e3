-- Texts that begin with the lines of two rows alike have the same row there.
use Rattle.std.proofs.Common.{◌≡◌, ◌≤◌, ℕ, true, List, [], ◌∷◌, ◌++◌, length, refl, sym, ap, ◌∙◌, subst, arith, length-append, append_assoc}
use Rattle.std.specs.Prelude.{codes}
use Rattle.std.proofs.lemmas.Bool.{and_parts, false≢true}
use Rattle.std.proofs.lemmas.List.{append_cancel_left}
use Rattle.deb_rows.specs.Cells.{cell_of, has_bytes, is_cell}
use Rattle.deb_rows.specs.Kinds.{Piece, any_text, front_of, pieces_of}
use Rattle.deb_rows.specs.Rows.{AreRows, HasRows, IsRow, RowText, are_cells, cells_text, row_line, rows_text}
use Rattle.deb_rows.specs.declared.cell.Class.TheVariants.{Key}
use Rattle.deb_rows.specs.declared.form.Form.{Form}
use Rattle.deb_rows.specs.declared.kind.RowKind.{RowKind}
use Rattle.deb_rows.specs.declared.kind.RowKind.TheVariants as kind
use Rattle.deb_rows.proofs.Apart.{fitting, free, line_kind, split, text_kind}
use Rattle.deb_rows.proofs.Ends.{cell_of-closed}
use Rattle.deb_rows.proofs.Found.{Close}
use Rattle.deb_rows.proofs.KindFacts.{cells_close}

same_cells : (pieces : List Piece) (cells others : List (List ℕ)) (t u : List ℕ) → Close pieces → are_cells pieces cells ≡ true → are_cells pieces others ≡ true
    → cells_text pieces cells ++ t ≡ cells_text pieces others ++ u → (cells ≡ others) × (t ≡ u)
same_cells [] [] [] t u close are also e = (refl, e)
same_cells [] [] (d ∷ ds) t u close are also e = absurd (false≢true also)
same_cells [] (c ∷ cs) others t u close are also e = absurd (false≢true are)
same_cells (piece ∷ pieces) [] others t u close are also e = absurd (false≢true are)
same_cells (piece ∷ pieces) (c ∷ cs) [] t u close are also e = absurd (false≢true also)
same_cells (piece ∷ pieces) (c ∷ cs) (d ∷ ds) t u close are also e =
    let class = piece.0 in
    let after = piece.1 in
    let T = cells_text pieces cs in
    let U = cells_text pieces ds in
    let first = and_parts (is_cell class c) (are_cells pieces cs) are in
    let second = and_parts (is_cell class d) (are_cells pieces ds) also in
    let left : (c ++ (after ++ T)) ++ t ≡ c ++ (after ++ (T ++ t)) = append_assoc c (after ++ T) t ∙ ap (λ l. c ++ l) (append_assoc after T t) in
    let right : (d ++ (after ++ U)) ++ u ≡ d ++ (after ++ (U ++ u)) = append_assoc d (after ++ U) u ∙ ap (λ l. d ++ l) (append_assoc after U u) in
    let whole : c ++ (after ++ (T ++ t)) ≡ d ++ (after ++ (U ++ u)) = sym left ∙ e ∙ right in
    let same : c ≡ d =
    sym (cell_of-closed class c (after ++ (T ++ t)) (close.0 cs t first.1) (free class c first.0)) ∙ ap (cell_of class) whole
    ∙ cell_of-closed class d (after ++ (U ++ u)) (close.0 ds u second.1) (free class d second.0) in
    let rest : after ++ (T ++ t) ≡ after ++ (U ++ u) =
    append_cancel_left c (after ++ (T ++ t)) (after ++ (U ++ u)) (whole ∙ ap (λ l. l ++ (after ++ (U ++ u))) (sym same)) in
    let more = same_cells pieces cs ds t u close.1 first.1 second.1 (append_cancel_left after (T ++ t) (U ++ u) rest) in
    ((λ i. same i ∷ more.0 i), more.1)

same_of_kind : (of : RowKind) (cells others : List (List ℕ)) (t u : List ℕ) → are_cells (pieces_of of) cells ≡ true → are_cells (pieces_of of) others ≡ true
    → (front_of of ++ cells_text (pieces_of of) cells) ++ t ≡ (front_of of ++ cells_text (pieces_of of) others) ++ u → (cells ≡ others) × (t ≡ u)
same_of_kind of cells others t u are also e =
    let front = front_of of in
    let T = cells_text (pieces_of of) cells in
    let U = cells_text (pieces_of of) others in
    same_cells (pieces_of of) cells others t u (cells_close of) are also
    (append_cancel_left front (T ++ t) (U ++ u) (sym (append_assoc front T t) ∙ e ∙ append_assoc front U u))

kind_in : (form : Form) (row : RowText) (more : List ℕ) → IsRow form row → text_kind form (row_line row ++ more) ≡ row.kind
kind_in form row more is = subst (λ f. text_kind f (row_line row ++ more) ≡ row.kind) is.kind (line_kind row.kind row.cells more is.cells)

pub same_row : (form : Form) (row other : RowText) (t u : List ℕ) → IsRow form row → IsRow form other → row_line row ++ t ≡ row_line other ++ u
    → (row ≡ other) × (t ≡ u)
same_row form row other t u is also e =
    let kinds : row.kind ≡ other.kind = sym (kind_in form row t is) ∙ ap (text_kind form) e ∙ kind_in form other u also in
    let P : RowKind → Type 0 =
    λ k. are_cells (pieces_of k) other.cells ≡ true → row_line row ++ t ≡ (front_of k ++ cells_text (pieces_of k) other.cells) ++ u → (row.cells ≡ other.cells) × (t ≡ u) in
    let cells = subst P kinds (λ a b. same_of_kind row.kind row.cells other.cells t u is.cells a b) also.cells e in
    ((λ i. record { kind = kinds i; cells = cells.0 i }), cells.1)

-- ---- no line is empty

bytes-append : (text more : List ℕ) → has_bytes text ≡ true → has_bytes (text ++ more) ≡ true
bytes-append [] more e = absurd (false≢true e)
bytes-append (b ∷ bs) more e = refl

key_bytes : (cells : List (List ℕ)) → are_cells (pieces_of kind.Key) cells ≡ true → has_bytes (cells_text (pieces_of kind.Key) cells) ≡ true
key_bytes cells e =
    let key = split (Key, codes ": ") any_text cells e in
    ap (λ l. has_bytes (cells_text (pieces_of kind.Key) l)) key.same
    ∙ bytes-append key.first (codes ": " ++ cells_text any_text key.rest) (fitting Key key.first key.is)

line_bytes : (of : RowKind) (cells : List (List ℕ)) → are_cells (pieces_of of) cells ≡ true → has_bytes (front_of of ++ cells_text (pieces_of of) cells) ≡ true
line_bytes kind.Met cells e = refl
line_bytes kind.Unmet cells e = refl
line_bytes kind.Ignored cells e = refl
line_bytes kind.Package cells e = refl
line_bytes kind.Reason cells e = refl
line_bytes kind.PackageReason cells e = refl
line_bytes kind.UnmetGroup cells e = refl
line_bytes kind.UnsureGroup cells e = refl
line_bytes kind.Removed cells e = refl
line_bytes kind.Changed cells e = refl
line_bytes kind.Upgraded cells e = refl
line_bytes kind.Added cells e = refl
line_bytes kind.OldLine cells e = refl
line_bytes kind.NewLine cells e = refl
line_bytes kind.Key cells e = key_bytes cells e
line_bytes kind.End cells e = refl
line_bytes kind.Count cells e = refl
line_bytes kind.Summary cells e = refl
line_bytes kind.Valid cells e = refl
line_bytes kind.Downgraded cells e = refl
line_bytes kind.UnmetNeed cells e = refl
line_bytes kind.UnsureNeed cells e = refl
line_bytes kind.Conflict cells e = refl
line_bytes kind.UnsureConflict cells e = refl
line_bytes kind.Duplicate cells e = refl
line_bytes kind.State cells e = refl
line_bytes kind.Uninstallable cells e = refl
line_bytes kind.Unsure cells e = refl
line_bytes kind.Undecided cells e = refl
line_bytes kind.Need cells e = refl
line_bytes kind.Exclusion cells e = refl
line_bytes kind.LeftOut cells e = refl
line_bytes kind.PackageOfFile cells e = refl
line_bytes kind.PackageReasonOfFile cells e = refl

some_bytes : (text : List ℕ) → has_bytes text ≡ true → 1 ≤ length text
some_bytes [] e = absurd (false≢true e)
some_bytes (b ∷ bs) e = omega arith

pub line_length : (form : Form) (row : RowText) → IsRow form row → 1 ≤ length (row_line row)
line_length form row is = some_bytes (row_line row) (line_bytes row.kind row.cells is.cells)

-- ---- the rows of a text

no_more : (form : Form) (row : RowText) (more : List ℕ) → IsRow form row → [] ≡ row_line row ++ more → ⊥
no_more form row more is e =
    let a : 0 ≡ length (row_line row ++ more) = ap length e in
    let b = length-append (row_line row) more in
    let c = line_length form row is in
    absurd (omega (arith, a, b, c))

same_rows : (form : Form) (rows others : List RowText) → AreRows form rows → AreRows form others → rows_text rows ≡ rows_text others → rows ≡ others
same_rows form [] [] are also e = refl
same_rows form [] (other ∷ others) are also e = absurd (no_more form other (rows_text others) also.0 e)
same_rows form (row ∷ rows) [] are also e = absurd (no_more form row (rows_text rows) are.0 (sym e))
same_rows form (row ∷ rows) (other ∷ others) are also e =
    let first = same_row form row other (rows_text rows) (rows_text others) are.0 also.0 e in
    let rest = same_rows form rows others are.1 also.1 first.1 in
    λ i. first.0 i ∷ rest i

pub one_text : (form : Form) (text : List ℕ) (rows others : List RowText) → HasRows form text rows → HasRows form text others → rows ≡ others
one_text form text rows others has also = same_rows form rows others has.allowed also.allowed (sym has.printed ∙ also.printed)

-- The row of a line is found, and only such a row.
use Rattle.std.proofs.Common.{◌≡◌, ◌+◌, ℕ, true, cond, List, [], ◌∷◌, ◌++◌, length, drop, refl, sym, ap, ◌∙◌, subst, arith, inl, inr, length-append, append_assoc}
use Rattle.std.specs.Prelude.{Option, Some, None}
use Rattle.std.specs.Option.{is_some, option_map, option_map_or, option_or}
use Rattle.std.proofs.lemmas.Bool.{cases_Bool, false≢true}
use Rattle.std.proofs.lemmas.List.{drop_at, drop-drop}
use Rattle.deb_rows.specs.Kinds.{form_of, front_of, kinds_of, pieces_of}
use Rattle.deb_rows.specs.Reads.{begins_with, found, read_cells, read_first, read_kind, read_row}
use Rattle.deb_rows.specs.Rows.{IsRow, RowText, are_cells, cells_text, no_cells, row_at, row_line}
use Rattle.deb_rows.specs.declared.form.Form.{Form}
use Rattle.deb_rows.specs.declared.kind.RowKind.{RowKind}
use Rattle.deb_rows.specs.declared.line.Found.{Found}
use Rattle.deb_rows.specs.declared.row.Span.{Span}
use Rattle.deb_rows.proofs.Ends.{begins-append, begins-rest}
use Rattle.deb_rows.proofs.Found.{CellsFound, cells_found, cells_are_read}
use Rattle.deb_rows.proofs.KindFacts.{AreOf, IsAmong, are_of_form, cells_close, is_among}

-- a row of a text of this form, whose line begins here
pub record RowFound (form : Form) (text : List ℕ) (start : ℕ) (read : Found) : Type 0 where
  pub row : RowText
  pub is : IsRow form row
  pub begins : drop start text ≡ row_line row ++ drop read.next text
  pub next : read.next ≡ start + length (row_line row)
  pub entry : read.row ≡ row_at start row

row_from_cells : (form : Form) (kind : RowKind) (text : List ℕ) (start : ℕ) (out : List Span × ℕ) → form_of kind ≡ form
    → begins_with (drop start text) (front_of kind) ≡ true
    → CellsFound (pieces_of kind) text (start + length (front_of kind)) 0 no_cells out → RowFound form text start (found kind out)
row_from_cells form kind text start out of begins cells =
    let front = front_of kind in
    let more = cells_text (pieces_of kind) cells.cells in
    record {
      row = record { kind = kind; cells = cells.cells };
      is = record { kind = of; cells = cells.are };
      begins =
          begins-rest (drop start text) front begins
          ∙ ap (λ l. front ++ l) (drop-drop (length front) start text ∙ cells.begins)
          ∙ sym (append_assoc front more (drop out.1 text));
      next = let a = length-append front more in omega (arith, a, cells.next);
      entry = ap (λ places. (found kind (places, out.1)).row) cells.placed;
    }

kind_found : (form : Form) (kind : RowKind) (text : List ℕ) (start : ℕ) (read : Found) → form_of kind ≡ form
    → read_kind kind text start ≡ Some read → RowFound form text start read
kind_found form kind text start read of e =
    let inner = read_cells (pieces_of kind) text (start + length (front_of kind)) 0 no_cells in
    let whole : cond (begins_with (drop start text) (front_of kind)) (option_map (found kind) inner) None ≡ Some read = e in
    elim (cases_Bool (begins_with (drop start text) (front_of kind))) [
      | inl h ↦ from_inner inner refl h (ap (λ t. cond t (option_map (found kind) inner) None) (sym h) ∙ whole)
      | inr h ↦
          let none : None ≡ Some read = ap (λ t. cond t (option_map (found kind) inner) None) (sym h) ∙ whole in
          absurd (false≢true (ap is_some none))
    ]
  where
    from_inner : (inner : Option (List Span × ℕ)) → read_cells (pieces_of kind) text (start + length (front_of kind)) 0 no_cells ≡ inner
        → begins_with (drop start text) (front_of kind) ≡ true → option_map (found kind) inner ≡ Some read → RowFound form text start read
    from_inner None same h some = absurd (false≢true (ap is_some some))
    from_inner (Some out) same h some =
        let is : found kind out ≡ read = ap (λ o. option_map_or (λ x. x) o read) some in
        subst (λ r. RowFound form text start r) is
        (row_from_cells form kind text start out of h (cells_found (pieces_of kind) text (start + length (front_of kind)) 0 no_cells out same))

first_found : (form : Form) (kinds : List RowKind) (text : List ℕ) (start : ℕ) (read : Found) → AreOf form kinds
    → read_first kinds text start ≡ Some read → RowFound form text start read
first_found form [] text start read of e = absurd (false≢true (ap is_some e))
first_found form (kind ∷ kinds) text start read of e =
    go (first_found form kinds text start read of.1) (read_kind kind text start) refl e
  where
    go : (read_first kinds text start ≡ Some read → RowFound form text start read) → (one : Option Found) → read_kind kind text start ≡ one
        → option_or one (read_first kinds text start) ≡ Some read → RowFound form text start read
    go later None same h = later h
    go later (Some other) same h = kind_found form kind text start read of.0 (same ∙ h)

-- a row that is read is one
pub row_found : (form : Form) (text : List ℕ) (start : ℕ) (read : Found) → Some read ≡ read_row form text start → RowFound form text start read
row_found form text start read e = first_found form (kinds_of form) text start read (are_of_form form) (sym e)

-- ---- a row is found

kind_is_read : (row : RowText) (text more : List ℕ) (start : ℕ) → are_cells (pieces_of row.kind) row.cells ≡ true → drop start text ≡ row_line row ++ more
    → is_some (read_kind row.kind text start) ≡ true
kind_is_read row text more start cells e =
    let front = front_of row.kind in
    let rest = cells_text (pieces_of row.kind) row.cells in
    let begins : drop start text ≡ front ++ (rest ++ more) = e ∙ append_assoc front rest more in
    let front_read : begins_with (drop start text) front ≡ true = ap (λ t. begins_with t front) begins ∙ begins-append front (rest ++ more) in
    let inner = read_cells (pieces_of row.kind) text (start + length front) 0 no_cells in
    let goes_on : drop (start + length front) text ≡ rest ++ more =
    sym (drop-drop (length front) start text) ∙ ap (drop (length front)) begins ∙ drop_at front (rest ++ more) (length front) refl in
    let read = cells_are_read (pieces_of row.kind) row.cells text more (start + length front) 0 no_cells (cells_close row.kind) cells goes_on in
    ap (λ t. is_some (cond t (option_map (found row.kind) inner) None)) front_read
    ∙ ap (λ o. is_some (option_map (found row.kind) o)) read

first_is_read : (kind : RowKind) (kinds : List RowKind) (text : List ℕ) (start : ℕ) → IsAmong kind kinds
    → is_some (read_kind kind text start) ≡ true → is_some (read_first kinds text start) ≡ true
first_is_read kind [] text start among some = absurd among
first_is_read kind (one ∷ more) text start among some = elim among [
  | inl e ↦ here (read_kind one text start) (ap (λ k. is_some (read_kind k text start)) (sym e) ∙ some)
  | inr later ↦ there (read_kind one text start) (first_is_read kind more text start later some)
]
  where
    here : (o : Option Found) → is_some o ≡ true → is_some (option_or o (read_first more text start)) ≡ true
    here None h = absurd (false≢true h)
    here (Some x) h = refl

    there : (o : Option Found) → is_some (read_first more text start) ≡ true → is_some (option_or o (read_first more text start)) ≡ true
    there None h = h
    there (Some x) h = refl

-- no line of a row begins where none is read
pub no_row_found : (form : Form) (text : List ℕ) (start : ℕ) → None ≡ read_row form text start → (row : RowText) (more : List ℕ) → IsRow form row
    → drop start text ≡ row_line row ++ more → ⊥
no_row_found form text start e row more is begins =
    let among : IsAmong row.kind (kinds_of form) = subst (λ f. IsAmong row.kind (kinds_of f)) is.kind (is_among row.kind) in
    false≢true (ap is_some e ∙ first_is_read row.kind (kinds_of form) text start among (kind_is_read row text more start is.cells begins))

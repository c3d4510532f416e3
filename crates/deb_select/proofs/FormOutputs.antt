-- What is written in each form, as a whole.
use Rattle.std.proofs.Common.{◌≡◌, ℕ, ◌+◌, ◌-◌, ◌≤◌, ◌==◌, ◌||◌, ◌/◌, ◌%◌, Bool, true, false, cond, nat_lt, List, [], ◌∷◌, ◌++◌, length, Option, None, Some, refl, ap, ◌∙◌, append_assoc, codes, arith}
use Rattle.std.proofs.lemmas.Bool.{ne_eqb}
use Rattle.std.specs.List.{flat_map}
use Rattle.deb_base.specs.Bodies.{Line, newline}
use Rattle.deb_syntax.specs.Lines.{Paragraph, with_newlines}
use Rattle.deb_field.specs.Values.{ValueMeaning, value_text}
use Rattle.deb_control.specs.Documents.{Meaning}
use Rattle.deb_control.specs.FieldWords.{value_under}
use Rattle.deb_control.specs.ValueFiles.{ValueEntries}
use Rattle.deb_select.specs.Conditions.{SelectionMeaning, selected, selects}
use Rattle.deb_select.specs.Fields.{fields_lines, fields_text, if_some, with_fields}
use Rattle.deb_select.specs.Forms.{WholeParagraphs, TheseFields, TableOf, after_gap, has_bytes, output}
use Rattle.deb_select.specs.Laws.{newlines_in}
use Rattle.deb_select.specs.Tables.{cell, cell_byte, hex_digit, more_cells, row, table, table_text}
use Rattle.deb_select.specs.Written.{chosen, chosen_text, gap, one_if, written_after}

-- ---- whole paragraphs

pub whole_output : (begun : Bool) (selection : SelectionMeaning) (meaning : Meaning) (ps : List Paragraph) → output WholeParagraphs begun selection meaning ps ≡ chosen_text begun selection meaning ps
whole_output begun selection [] ps = refl
whole_output begun selection (values ∷ meaning) [] = refl
whole_output begun selection (values ∷ meaning) (p ∷ ps) = go (λ b. whole_output b selection meaning ps) (selects selection values)
  where
    go : ((b : Bool) → output WholeParagraphs b selection meaning ps ≡ chosen_text b selection meaning ps) → (t : Bool) → cond t (gap begun ++ with_newlines p.lines) [] ++ output WholeParagraphs (cond t true begun) selection meaning ps ≡ written_after begun (one_if t p ++ chosen selection meaning ps)
    go is true =
        append_assoc (gap begun) (with_newlines p.lines) (output WholeParagraphs true selection meaning ps)
        ∙ ap (λ l. gap begun ++ (with_newlines p.lines ++ l)) (is true)
    go is false = is begun

-- ---- some fields

or-false : (b : Bool) → (b || false) ≡ b
or-false true = refl
or-false false = refl

or-true : (b : Bool) → (b || true) ≡ true
or-true true = refl
or-true false = refl

gap_line : (begun : Bool) (line more : List ℕ) → after_gap begun (line ++ newline ∷ more) ≡ gap begun ++ (line ++ newline ∷ more)
gap_line begun [] more = refl
gap_line begun (b ∷ line) more = refl

has_line : (line more : List ℕ) → has_bytes (line ++ newline ∷ more) ≡ true
has_line [] more = refl
has_line (b ∷ line) more = refl

more_fields : (begun : Bool) (first : ℕ) (lines : List Line) (out : Bool → List ℕ) (rest : List Paragraph) → ((b : Bool) → out b ≡ written_after b rest)
    → after_gap begun (with_newlines lines) ++ out (begun || has_bytes (with_newlines lines)) ≡ written_after begun (if_some (record { first = first; lines = lines }) ++ rest)
more_fields begun first [] out rest is = ap out (or-false begun) ∙ is begun
more_fields begun first (line ∷ lines) out rest is =
    let text = with_newlines (line ∷ lines) in
    ap (λ l. l ++ out (begun || has_bytes text)) (gap_line begun line (with_newlines lines))
    ∙ append_assoc (gap begun) text (out (begun || has_bytes text))
    ∙ ap (λ b. gap begun ++ (text ++ out b)) (ap (λ b. begun || b) (has_line line (with_newlines lines)) ∙ or-true begun)
    ∙ ap (λ l. gap begun ++ (text ++ l)) (is true)

pub fields_output : (names : List (List ℕ)) (begun : Bool) (selection : SelectionMeaning) (meaning : Meaning) (ps : List Paragraph) → output (TheseFields names) begun selection meaning ps ≡ fields_text names begun selection meaning ps
fields_output names begun selection [] ps = refl
fields_output names begun selection (values ∷ meaning) [] = refl
fields_output names begun selection (values ∷ meaning) (p ∷ ps) = go (λ b. fields_output names b selection meaning ps) (selects selection values)
  where
    go : ((b : Bool) → output (TheseFields names) b selection meaning ps ≡ fields_text names b selection meaning ps) → (t : Bool) → cond t (after_gap begun (with_newlines (fields_lines names p.lines))) [] ++ output (TheseFields names) (cond t (begun || has_bytes (with_newlines (fields_lines names p.lines))) begun) selection meaning ps
        ≡ written_after begun (with_fields names (one_if t p ++ chosen selection meaning ps))
    go is true =
        more_fields begun p.first (fields_lines names p.lines) (λ b. output (TheseFields names) b selection meaning ps) (with_fields names (chosen selection meaning ps))
        is
    go is false = is begun

-- ---- a table

pub table_output : (names : List (List ℕ)) (begun : Bool) (selection : SelectionMeaning) (meaning : Meaning) (ps : List Paragraph) → length meaning ≤ length ps → output (TableOf names) begun selection meaning ps ≡ table_text names selection meaning
table_output names begun selection [] ps enough = refl
table_output names begun selection (values ∷ meaning) [] enough = absurd (omega arith)
table_output names begun selection (values ∷ meaning) (p ∷ ps) enough = go (table_output names begun selection meaning ps (omega (arith, enough))) (selects selection values)
  where
    go : output (TableOf names) begun selection meaning ps ≡ table_text names selection meaning → (t : Bool) → cond t (row names values ++ newline ∷ []) [] ++ output (TableOf names) (cond t begun begun) selection meaning ps ≡ table names (cond t (values ∷ selected selection meaning) (selected selection meaning))
    go is true =
        append_assoc (row names values) (newline ∷ []) (output (TableOf names) begun selection meaning ps)
        ∙ ap (λ l. row names values ++ newline ∷ l) is
    go is false = is

-- ---- its lines

pub newlines-append : (a b : List ℕ) → newlines_in (a ++ b) ≡ newlines_in a + newlines_in b
newlines-append [] b = omega arith
newlines-append (x ∷ a) b = go (x == newline) (newlines-append a b)
  where
    go : (t : Bool) → newlines_in (a ++ b) ≡ newlines_in a + newlines_in b → cond t (newlines_in (a ++ b) + 1) (newlines_in (a ++ b)) ≡ cond t (newlines_in a + 1) (newlines_in a) + newlines_in b
    go true is = omega (arith, is)
    go false is = is

digit_is_none : (n : ℕ) → (hex_digit n == newline) ≡ false
digit_is_none n = ne_eqb (hex_digit n) newline (λ same. go (nat_lt n 10) same)
  where
    go : (t : Bool) → cond t (48 + n) (97 + (n - 10)) ≡ newline → ⊥
    go true same = omega (arith, same)
    go false same = omega (arith, same)

none_in_byte : (b : ℕ) → newlines_in (cell_byte b) ≡ 0
none_in_byte b = go (b == 9) (b == 10) (b == 92) (nat_lt b 32 || (b == 127)) refl
  where
    go : (t n s h : Bool) → (b == 10) ≡ n
        → newlines_in (cond t (codes "\\t") (cond n (codes "\\n") (cond s (codes "\\\\") (cond h (92 ∷ 120 ∷ hex_digit (b / 16) ∷ hex_digit (b % 16) ∷ []) (b ∷ []))))) ≡ 0
    go true n s h is = refl
    go false true s h is = refl
    go false false true h is = refl
    go false false false true is =
        ap (λ x. cond x (newlines_in (hex_digit (b % 16) ∷ []) + 1) (newlines_in (hex_digit (b % 16) ∷ []))) (digit_is_none (b / 16))
        ∙ ap (λ x. cond x (0 + 1) 0) (digit_is_none (b % 16))
    go false false false false is = ap (λ x. cond x (0 + 1) 0) is

none_in_text : (text : List ℕ) → newlines_in (flat_map cell_byte text) ≡ 0
none_in_text [] = refl
none_in_text (b ∷ text) = newlines-append (cell_byte b) (flat_map cell_byte text) ∙ omega (arith, none_in_byte b, none_in_text text)

none_in_cell : (value : Option ValueMeaning) → newlines_in (cell value) ≡ 0
none_in_cell None = refl
none_in_cell (Some value) = none_in_text (value_text value)

none_in_more : (names : List (List ℕ)) (values : ValueEntries ValueMeaning) → newlines_in (more_cells names values) ≡ 0
none_in_more [] values = refl
none_in_more (name ∷ names) values =
    newlines-append (cell (value_under name values)) (more_cells names values)
    ∙ omega (arith, none_in_cell (value_under name values), none_in_more names values)

none_in_row : (names : List (List ℕ)) (values : ValueEntries ValueMeaning) → newlines_in (row names values) ≡ 0
none_in_row [] values = refl
none_in_row (name ∷ names) values =
    newlines-append (cell (value_under name values)) (more_cells names values)
    ∙ omega (arith, none_in_cell (value_under name values), none_in_more names values)

table_lines : (names : List (List ℕ)) (meaning : Meaning) → newlines_in (table names meaning) ≡ length meaning
table_lines names [] = refl
table_lines names (values ∷ meaning) =
    newlines-append (row names values) (newline ∷ table names meaning)
    ∙ omega (arith, none_in_row names values, table_lines names meaning)

pub lines_of_table : (names : List (List ℕ)) (selection : SelectionMeaning) (meaning : Meaning) → newlines_in (table_text names selection meaning) ≡ length (selected selection meaning)
lines_of_table names selection meaning = table_lines names (selected selection meaning)

-- A cell ends before the text after it, and is a cell.
use Rattle.std.proofs.Common.{◌≡◌, ◌+◌, ℕ, true, false, cond, List, [], ◌∷◌, ◌++◌, length, drop, refl, sym, ap, ◌∙◌, inl, inr}
use Rattle.std.specs.Prelude.{◌==◌, ◌&&◌, Some, None, codes}
use Rattle.std.proofs.lemmas.Bool.{cases_Bool, and_parts, or_parts, or_from, and_left, and_right, and_from, false≢true}
use Rattle.std.proofs.lemmas.Bool.Decides.{Decides-eqb}
use Rattle.std.specs.Option.{option_map_or, is_some}
use Rattle.std.proofs.lemmas.List.{drop_at, drop-drop}
use Rattle.std.proofs.lemmas.Slice.Eq.{starts_is}
use Rattle.deb_rows.specs.Cells.{begins_with_at, begins_with_by, begins_with_digit_after, begins_with_space, stops, cell_of, is_unstopped, is_cell, fits}
use Rattle.deb_rows.specs.Reads.{begins_with, read_cell}
use Rattle.deb_rows.specs.declared.cell.Class.{Class}
use Rattle.deb_rows.specs.declared.cell.Class.TheVariants.{Number, Word, Key, Alternative, Reason, Line, Group, Phrase, Place}
use Rattle.deb_rows.proofs.Cells.{cell_of-append-drop}

-- a text that ends a cell, and with which no byte ends it that doesn't at the end of a text
pub record Closes (class : Class) (next : List ℕ) : Type 0 where
  pub empty : cell_of class next ≡ []
  pub same : (b : ℕ) (bs : List ℕ) → stops class b (bs ++ next) ≡ stops class b bs

-- a cell with such a text after it
pub cell_of-closed : (class : Class) (cell next : List ℕ) → Closes class next → is_unstopped class cell ≡ true → cell_of class (cell ++ next) ≡ cell
cell_of-closed class [] next closes free = closes.empty
cell_of-closed class (b ∷ bs) next closes free = elim (cases_Bool (stops class b bs)) [
  | inl e ↦ let no : false ≡ true = ap (λ t. cond t false (is_unstopped class bs)) (sym e) ∙ free in cc no
  | inr e ↦
      ap (λ t. cond t [] (b ∷ cell_of class (bs ++ next))) (closes.same b bs ∙ e)
      ∙ ap (λ l. b ∷ l) (cell_of-closed class bs next closes (ap (λ t. cond t false (is_unstopped class bs)) (sym e) ∙ free))
]

-- what begins so less of a text
digit_before : (bs more : List ℕ) → begins_with_digit_after [] (bs ++ more) ≡ false → begins_with_digit_after [] bs ≡ false
digit_before [] more e = refl
digit_before (b ∷ bs) more e = e

begins_before : (before bs more : List ℕ) → begins_with_digit_after before (bs ++ more) ≡ false → begins_with_digit_after before bs ≡ false
begins_before [] bs more e = digit_before bs more e
begins_before (c ∷ cs) [] more e = refl
begins_before (c ∷ cs) (b ∷ bs) more e = elim (cases_Bool (b == c)) [
  | inl h ↦
      ap (λ t. t && begins_with_digit_after cs bs) h
      ∙ begins_before cs bs more (ap (λ t. t && begins_with_digit_after cs (bs ++ more)) (sym h) ∙ e)
  | inr h ↦ and_left (b == c) (begins_with_digit_after cs bs) h
]

-- before the end of a cell nothing ends it
stops_before_alternative : (b : ℕ) (bs more : List ℕ) → stops Alternative b (bs ++ more) ≡ false → stops Alternative b bs ≡ false
stops_before_alternative b [] more e =
    or_from (b == 10) (b == 58 && false) (or_parts (b == 10) (b == 58 && begins_with_space more) e).0 (and_right (b == 58) false refl)
stops_before_alternative b (c ∷ cs) more e = e

stops_before_group : (b : ℕ) (bs more : List ℕ) → stops Group b (bs ++ more) ≡ false → stops Group b bs ≡ false
stops_before_group b bs more e =
    let parts = or_parts (b == 10) (b == 32 && begins_with_by (bs ++ more)) e in
    or_from (b == 10) (b == 32 && begins_with_by bs) parts.0
    (elim (cases_Bool (b == 32)) [
      | inl h ↦
          ap (λ t. t && begins_with_by bs) h
          ∙ begins_before (codes "by ") bs more (ap (λ t. t && begins_with_by (bs ++ more)) (sym h) ∙ parts.1)
      | inr h ↦ and_left (b == 32) (begins_with_by bs) h
    ])

stops_before_phrase : (b : ℕ) (bs more : List ℕ) → stops Phrase b (bs ++ more) ≡ false → stops Phrase b bs ≡ false
stops_before_phrase b [] more e =
    or_from (b == 10) (b == 32 && false) (or_parts (b == 10) (b == 32 && begins_with_at more) e).0 (and_right (b == 32) false refl)
stops_before_phrase b (c ∷ cs) more e = e

stops_before : (class : Class) (b : ℕ) (bs more : List ℕ) → stops class b (bs ++ more) ≡ false → stops class b bs ≡ false
stops_before Number b bs more e = e
stops_before Word b bs more e = e
stops_before Key b bs more e = e
stops_before Alternative b bs more e = stops_before_alternative b bs more e
stops_before Reason b bs more e = e
stops_before Line b bs more e = e
stops_before Group b bs more e = stops_before_group b bs more e
stops_before Phrase b bs more e = stops_before_phrase b bs more e
stops_before Place b bs more e = e

stops-before_end : (class : Class) (b : ℕ) (bs : List ℕ) → stops class b bs ≡ false → stops class b (cell_of class bs) ≡ false
stops-before_end class b bs e =
    stops_before class b (cell_of class bs) (drop (length (cell_of class bs)) bs)
    (ap (stops class b) (sym (cell_of-append-drop class bs)) ∙ e)

pub cell_of-unstopped : (class : Class) (text : List ℕ) → is_unstopped class (cell_of class text) ≡ true
cell_of-unstopped class [] = refl
cell_of-unstopped class (b ∷ bs) = elim (cases_Bool (stops class b bs)) [
  | inl e ↦ ap (λ t. is_unstopped class (cond t [] (b ∷ cell_of class bs))) e
  | inr e ↦
      ap (λ t. is_unstopped class (cond t [] (b ∷ cell_of class bs))) e
      ∙ ap (λ t. cond t false (is_unstopped class (cell_of class bs))) (stops-before_end class b bs e)
      ∙ cell_of-unstopped class bs
]

-- a text that begins with another
pub begins-rest : (text front : List ℕ) → begins_with text front ≡ true → text ≡ front ++ drop (length front) text
begins-rest text front = (starts_is {E = λ a b. a == b} Decides-eqb text front (begins_with text front) refl).0

pub begins-append : (front rest : List ℕ) → begins_with (front ++ rest) front ≡ true
begins-append front rest = (starts_is {E = λ a b. a == b} Decides-eqb (front ++ rest) front (begins_with (front ++ rest) front) refl).1 rest refl

-- what is read of a cell
pub record CellFound (class : Class) (after text : List ℕ) (n : ℕ) : Type 0 where
  pub cell : List ℕ
  pub is : is_cell class cell ≡ true
  pub measured : n ≡ length cell
  pub begins : text ≡ cell ++ (after ++ drop (n + length after) text)

pub cell_found : (class : Class) (after text : List ℕ) (n : ℕ) → read_cell class after text ≡ Some n → CellFound class after text n
unfolding read_cell
cell_found class after text n e =
    let cell = cell_of class text in
    let rest = drop (length cell) text in
    let read : cond (fits class cell && begins_with rest after) (Some (length cell)) None ≡ Some n = e in
    elim (cases_Bool (fits class cell && begins_with rest after)) [
      | inl h ↦
          let parts = and_parts (fits class cell) (begins_with rest after) h in
          let some : Some (length cell) ≡ Some n = ap (λ t. cond t (Some (length cell)) None) (sym h) ∙ read in
          let same : n ≡ length cell = ap (λ o. option_map_or (λ x. x) o 0) (sym some) in
          record {
            cell = cell;
            is = and_from (is_unstopped class cell) (fits class cell) (cell_of-unstopped class text) parts.0;
            measured = same;
            begins =
                cell_of-append-drop class text ∙ ap (λ l. cell ++ l) (begins-rest rest after parts.1)
                ∙ ap (λ l. cell ++ (after ++ l)) (drop-drop (length after) (length cell) text)
                ∙ ap (λ k. cell ++ (after ++ drop (k + length after) text)) (sym same);
          }
      | inr h ↦
          let none : None ≡ Some n = ap (λ t. cond t (Some (length cell)) None) (sym h) ∙ read in
          absurd (false≢true (ap is_some none))
    ]

-- a cell is read
pub cell_is_read : (class : Class) (cell after more : List ℕ) → Closes class (after ++ more) → is_cell class cell ≡ true
    → read_cell class after (cell ++ (after ++ more)) ≡ Some (length cell)
unfolding read_cell
cell_is_read class cell after more closes is =
    let parts = and_parts (is_unstopped class cell) (fits class cell) is in
    let same : cell_of class (cell ++ (after ++ more)) ≡ cell = cell_of-closed class cell (after ++ more) closes parts.0 in
    let rest : drop (length cell) (cell ++ (after ++ more)) ≡ after ++ more = drop_at cell (after ++ more) (length cell) refl in
    rw (same, rest, parts.1, begins-append after more) refl

-- How far a text was read, and what is in the table.
use Rattle.std.proofs.Common.{◌≡◌, ◌+◌, ◌≤◌, ◌<◌, ℕ, List, [], ◌∷◌, ◌++◌, length, drop, get_or, refl, sym, ap, ◌∙◌, arith, length-append, length-drop, length-set, append_assoc, append-nil, drop_of_length-le}
use Rattle.std.specs.Prelude.{Option, slice_set, Some, None, IfNone, IfSome}
use Rattle.std.proofs.lemmas.List.{drop_more, length_push, set_at}
use Rattle.deb_rows.specs.Calls.{Reads, Scans}
use Rattle.deb_rows.specs.Reads.{read_row}
use Rattle.deb_rows.specs.Rows.{AreRows, HasRows, IsRow, RowText, row_at, row_line, rows_text, table_at, table_of}
use Rattle.deb_rows.specs.declared.form.Form.{Form}
use Rattle.deb_rows.specs.declared.line.Found.{Found}
use Rattle.deb_rows.specs.declared.row.Row.{Row}
use Rattle.deb_rows.proofs.RowsFound.{RowFound, no_row_found}
use Rattle.deb_rows.proofs.Same.{line_length, one_text, same_row}

are_rows-push : (form : Form) (rows : List RowText) (row : RowText) → AreRows form rows → IsRow form row → AreRows form (rows ++ row ∷ [])
are_rows-push form [] row are is = (is, tt)
are_rows-push form (first ∷ rows) row are is = (are.0, are_rows-push form rows row are.1 is)

rows_text-push : (rows : List RowText) (row : RowText) → rows_text (rows ++ row ∷ []) ≡ rows_text rows ++ row_line row
rows_text-push [] row = append-nil (row_line row)
rows_text-push (first ∷ rows) row = ap (λ l. row_line first ++ l) (rows_text-push rows row) ∙ sym (append_assoc (row_line first) (rows_text rows) (row_line row))

table_at-push : (start : ℕ) (rows : List RowText) (row : RowText) → table_at start (rows ++ row ∷ []) ≡ table_at start rows ++ row_at (start + length (rows_text rows)) row ∷ []
table_at-push start [] row = ap (λ k. row_at k row ∷ []) (omega arith)
table_at-push start (first ∷ rows) row =
    let n = length (row_line first) in
    let m = length (rows_text rows) in
    let l = length-append (row_line first) (rows_text rows) in
    let same : start + n + m ≡ start + length (row_line first ++ rows_text rows) = omega (arith, l) in
    ap (λ t. row_at start first ∷ t) (table_at-push (start + n) rows row ∙ ap (λ k. table_at (start + n) rows ++ row_at k row ∷ []) same)

length-table_at : (start : ℕ) (rows : List RowText) → length (table_at start rows) ≡ length rows
length-table_at start [] = refl
length-table_at start (row ∷ rows) = let more = length-table_at (start + length (row_line row)) rows in omega (arith, more)

-- The rows before this offset are read, and are in the table as far as it has room.
pub record Scanned (form : Form) (text : List ℕ) (before : List Row) (at : ℕ) (rows : List Row) (count : ℕ) : Type 0 where
  pub done : List RowText
  pub allowed : AreRows form done
  pub begins : text ≡ rows_text done ++ drop at text
  pub measured : at ≡ length (rows_text done)
  pub within : at ≤ length text
  pub counted : count ≡ length done
  pub few : count ≤ at
  pub kept : length rows ≡ length before
  pub table : length done ≤ length before → rows ≡ table_of done ++ drop (length done) before
  pub left : (others : List RowText) → AreRows form others → text ≡ rows_text others → (more : List RowText) × AreRows form more × (drop at text ≡ rows_text more)

pub none_scanned : (form : Form) (text : List ℕ) (before : List Row) → Scanned form text before 0 before 0
none_scanned form text before = record {
  done = [];
  allowed = tt;
  begins = refl;
  measured = refl;
  within = omega arith;
  counted = refl;
  few = omega arith;
  kept = refl;
  table = λ room. refl;
  left = λ others allowed e. (others, allowed, e);
}

-- something is left before the end
not_at_end : (text : List ℕ) (at : ℕ) → at < length text → drop at text ≡ [] → ⊥
not_at_end text at below e =
    let a = length-drop at text in
    let b : length (drop at text) ≡ 0 = ap length e in
    absurd (omega (arith, a, b, below))

module _ (form : Form) (text : List ℕ) (before : List Row) (at : ℕ) (rows : List Row) (count : ℕ) (scan : Scanned form text before at rows count) where
  pub goes_on : (read : Found) → RowFound form text at read → at < read.next
  goes_on read next = let a = line_length form next.row next.is in omega (arith, a, next.next)

  begins_more : (read : Found) (next : RowFound form text at read) → text ≡ rows_text (scan.done ++ next.row ∷ []) ++ drop read.next text
  begins_more read next =
      scan.begins ∙ ap (λ l. rows_text scan.done ++ l) next.begins
      ∙ sym (append_assoc (rows_text scan.done) (row_line next.row) (drop read.next text))
      ∙ ap (λ l. l ++ drop read.next text) (sym (rows_text-push scan.done next.row))

  measured_more : (read : Found) (next : RowFound form text at read) → read.next ≡ length (rows_text (scan.done ++ next.row ∷ []))
  measured_more read next =
      let a = ap length (rows_text-push scan.done next.row) in
      let b = length-append (rows_text scan.done) (row_line next.row) in
      omega (arith, a, b, scan.measured, next.next)

  table_more : (read : Found) (next : RowFound form text at read) → length (scan.done ++ next.row ∷ []) ≤ length before
      → slice_set rows count read.row ≡ table_of (scan.done ++ next.row ∷ []) ++ drop (length (scan.done ++ next.row ∷ [])) before
  table_more read next room =
      let n = length scan.done in
      let pushed : length (scan.done ++ next.row ∷ []) ≡ n + 1 = length_push scan.done next.row in
      let below : n < length before = omega (arith, pushed, room) in
      let old : List Row = table_of scan.done in
      let tail : List Row = drop (n + 1) before in
      let was : rows ≡ old ++ get_or before n read.row ∷ tail = scan.table (omega (arith, below)) ∙ ap (λ l. old ++ l) (drop_more before n read.row below) in
      let sized : length old ≡ count = length-table_at 0 scan.done ∙ sym scan.counted in
      let entry : row_at (0 + length (rows_text scan.done)) next.row ≡ read.row =
      ap (λ k. row_at k next.row) (let a = scan.measured in omega (arith, a)) ∙ sym next.entry in
      let new : table_of (scan.done ++ next.row ∷ []) ≡ old ++ read.row ∷ [] = table_at-push 0 scan.done next.row ∙ ap (λ r. old ++ r ∷ []) entry in
      ap (λ l. slice_set l count read.row) was ∙ set_at old (get_or before n read.row) tail read.row count sized
      ∙ sym (append_assoc old (read.row ∷ []) tail) ∙ ap (λ l. l ++ tail) (sym new) ∙ ap (λ k. table_of (scan.done ++ next.row ∷ []) ++ drop k before) (sym pushed)

  left_more : (read : Found) (next : RowFound form text at read) → at < length text → (others : List RowText) → AreRows form others → text ≡ rows_text others
      → (more : List RowText) × AreRows form more × (drop read.next text ≡ rows_text more)
  left_more read next below others allowed e = let some = scan.left others allowed e in go some.0 some.1 some.2
    where
      go : (more : List RowText) → AreRows form more → drop at text ≡ rows_text more
          → (rest : List RowText) × AreRows form rest × (drop read.next text ≡ rows_text rest)
      go [] are same = absurd (not_at_end text at below same)
      go (row ∷ rest) are same =
          (rest, are.1, (same_row form next.row row (drop read.next text) (rows_text rest) next.is are.0 (sym next.begins ∙ same)).1)

  pub scanned_more : (read : Found) → at < length text → RowFound form text at read → Scanned form text before read.next (slice_set rows count read.row) (count + 1)
  scanned_more read below next =
      let n = length (rows_text (scan.done ++ next.row ∷ [])) in
      let whole = ap length (begins_more read next) in
      let sum = length-append (rows_text (scan.done ++ next.row ∷ [])) (drop read.next text) in
      let ahead = goes_on read next in
      let pushed = length_push scan.done next.row in
      record {
        done = scan.done ++ next.row ∷ [];
        allowed = are_rows-push form scan.done next.row scan.allowed next.is;
        begins = begins_more read next;
        measured = measured_more read next;
        within = let same = measured_more read next in omega (arith, whole, sum, same);
        counted = let same = scan.counted in omega (arith, pushed, same);
        few = let few = scan.few in omega (arith, few, ahead);
        kept = length-set rows count read.row ∙ scan.kept;
        table = table_more read next;
        left = left_more read next below;
      }

  pub all_scanned : length text ≤ at → Scans form text before rows count
  all_scanned all = record {
    rows = scan.done;
    read = record {
      allowed = scan.allowed;
      printed = scan.begins ∙ ap (λ l. rows_text scan.done ++ l) (drop_of_length-le text all) ∙ append-nil (rows_text scan.done);
    };
    table = scan.table;
    counted = scan.counted;
  }

  pub has_no_rows : at < length text → None ≡ read_row form text at → (others : List RowText) → HasRows form text others → ⊥
  has_no_rows below none others has = let some = scan.left others has.allowed has.printed in go some.0 some.1 some.2
    where
      go : (more : List RowText) → AreRows form more → drop at text ≡ rows_text more → ⊥
      go [] are same = not_at_end text at below same
      go (row ∷ rest) are same = no_row_found form text at none row (rows_text rest) are.0 same

-- a text that was scanned once is read by a second scan
pub scanned_twice : (form : Form) (text : List ℕ) (none before after : List Row) (count : ℕ) (result : Option ℕ) → Scans form text [] none count
    → IfSome result (Scans form text before after) → IfNone result ((rows : List RowText) → HasRows form text rows → ⊥) → count ≤ length before
    → Reads form text before after count
scanned_twice form text none before after count None first some other room = absurd (other first.rows first.read)
scanned_twice form text none before after count (Some n) first some other room =
    let counted : count ≡ length some.rows = first.counted ∙ ap length (one_text form text first.rows some.rows first.read some.read) in
    let fits : length some.rows ≤ length before = omega (arith, counted, room) in
    record { rows = some.rows; read = some.read; fits = fits; table = some.table fits; counted = counted }

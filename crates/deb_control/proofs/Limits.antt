-- The limits of files and paragraphs: as tests, and on canonical text.
use Rattle.deb_control.proofs.Common.{◌≡◌, ℕ, ◌+◌, ◌-◌, ◌≤◌, ◌==◌, Bool, true, false, cond, List, [], ◌∷◌, ◌++◌, length, nat_le, None, Some, refl, sym, ap, ◌∙◌, subst, append-nil, length-append, arith, leb-true, le-leb, cond_both, sum_by-append, sum_by-cons, AllByRecursion, Line, newline, pieces_of, with_byte, line_length, paragraph_limit, Paragraph, lines_of, paragraphs_from, total_length, file_limit, IsShort, Entries, line_too_long, line_beyond, part_within, IsNonempty, IsNonempty-pieces_of, behind_colon, field_text, paragraph_text, file_text}
use Rattle.deb_control.proofs.Entries.{AreEntries}
use Rattle.deb_control.proofs.EntryLines.{entry_text, entry_lines}
use Rattle.deb_control.proofs.ParagraphText.{paragraph_lines}
use Rattle.deb_control.proofs.FileText.{paragraph_from, is_blank-nil, first_paragraph, behind_empty}

-- lines that are short enough pass the test
pub line_too_long-none : (lines : List Line) (n room : ℕ) → total_length lines ≤ room → line_too_long n room lines ≡ None
line_too_long-none [] n room h = refl
line_too_long-none (line ∷ lines) n room h =
    let within : line_length line + total_length lines ≤ room = subst (λ k. k ≤ room) (sum_by-cons line_length line lines) h in
    rw (le-leb (line_length line) room (omega (arith, within))) (line_too_long-none lines (n + 1) (room - line_length line) (omega (arith, within)))

pub total_length-within : (lines : List Line) (n room : ℕ) → line_too_long n room lines ≡ None → total_length lines ≤ room
total_length-within [] n room h = omega arith
total_length-within (line ∷ lines) n room h = subst (λ k. k ≤ room) (sym (sum_by-cons line_length line lines)) (go (nat_le (line_length line) room) refl (total_length-within lines (n + 1) (room - line_length line)) h)
  where
    go : (t : Bool) → nat_le (line_length line) room ≡ t → (line_too_long (n + 1) (room - line_length line) lines ≡ None → total_length lines ≤ room - line_length line) → cond t (line_too_long (n + 1) (room - line_length line) lines) (Some n) ≡ None → line_length line + total_length lines ≤ room
    go true e rest h = omega (arith, leb-true (line_length line) room e, rest h)
    go false e rest h = absurd (cc)

pub line_beyond-none : (text : List ℕ) → length text ≤ file_limit → line_beyond 1 file_limit text ≡ None
line_beyond-none text h = rw (le-leb (length text) file_limit h) refl

pub length-within : (text : List ℕ) → line_beyond 1 file_limit text ≡ None → length text ≤ file_limit
length-within text h = go (nat_le (length text) file_limit) refl h
  where
    go : (t : Bool) → nat_le (length text) file_limit ≡ t → cond t None (Some (1 + length (lines_of (part_within file_limit text)))) ≡ None → length text ≤ file_limit
    go true e h = leb-true (length text) file_limit e
    go false e h = absurd (cc)

pub part_within-whole : (text : List ℕ) → length text ≤ file_limit → part_within file_limit text ≡ text
part_within-whole text h = rw (le-leb (length text) file_limit h) refl

-- more paragraphs make the canonical text no shorter
pub file_text-grows : (meaning more : List Entries) → length (file_text meaning) ≤ length (file_text (meaning ++ more))
file_text-grows [] more = omega arith
file_text-grows (entries ∷ []) [] = omega arith
file_text-grows (entries ∷ []) (next ∷ more) = omega (arith, length-append (paragraph_text entries) (newline ∷ file_text (next ∷ more)))
file_text-grows (entries ∷ next ∷ meaning) more =
    omega (arith, length-append (paragraph_text entries) (newline ∷ file_text (next ∷ meaning)), length-append (paragraph_text entries) (newline ∷ file_text (next ∷ (meaning ++ more))), file_text-grows (next ∷ meaning) more)

total_length-with_byte : (b : ℕ) (lines : List Line) → IsNonempty lines → total_length (with_byte b lines) ≡ total_length lines + 1
total_length-with_byte b [] some = absurd some
total_length-with_byte b (line ∷ lines) some =
    omega (arith, sum_by-cons line_length (b ∷ line) lines, sum_by-cons line_length line lines)

total_length-pieces_of : (text : List ℕ) → total_length (pieces_of text) ≡ length text + 1
total_length-pieces_of [] = refl
total_length-pieces_of (b ∷ bs) =
    cond_both (b == newline) ([] ∷ pieces_of bs) (with_byte b (pieces_of bs)) (λ pieces. total_length pieces ≡ length (b ∷ bs) + 1)
    (λ e. omega (arith, sum_by-cons line_length [] (pieces_of bs), total_length-pieces_of bs))
    (λ e. omega (arith, total_length-pieces_of bs, total_length-with_byte b (pieces_of bs) (IsNonempty-pieces_of bs)))

length-field_text : (entry : List ℕ × List ℕ) → total_length (entry_lines entry) ≡ length (field_text entry)
length-field_text entry =
    omega (arith, total_length-pieces_of (entry_text entry), length-append entry.0 (58 ∷ behind_colon entry.1), length-append entry.0 (58 ∷ (behind_colon entry.1 ++ newline ∷ [])), length-append (behind_colon entry.1) (newline ∷ []))

-- the lengths of a paragraph's canonical lines add up to the length of its canonical text
pub length-paragraph_text : (entries : Entries) → total_length (paragraph_lines entries) ≡ length (paragraph_text entries)
length-paragraph_text [] = refl
length-paragraph_text (entry ∷ entries) =
    sum_by-append line_length (entry_lines entry) (paragraph_lines entries)
    ∙ ap (λ n. n + total_length (paragraph_lines entries)) (length-field_text entry)
    ∙ ap (λ n. length (field_text entry) + n) (length-paragraph_text entries)
    ∙ sym (length-append (field_text entry) (paragraph_text entries))

-- the paragraphs of a meaning's canonical text
abbrev pub paragraphs_at : ℕ → List Entries → List Paragraph
paragraphs_at n [] = []
paragraphs_at n (entries ∷ meaning) = paragraph_from n entries ∷ paragraphs_at (n + length (paragraph_lines entries) + 1) meaning

pub paragraphs_of-file_text : (n : ℕ) (meaning : List Entries) → AllByRecursion AreEntries meaning → paragraphs_from n (lines_of (file_text meaning)) ≡ paragraphs_at n meaning
paragraphs_of-file_text n [] are = refl
paragraphs_of-file_text n (entries ∷ []) are =
    ap (λ text. paragraphs_from n (lines_of text)) (sym (append-nil (paragraph_text entries))) ∙ first_paragraph n entries [] are.0 refl
paragraphs_of-file_text n (entries ∷ next ∷ meaning) are =
    let after = n + length (paragraph_lines entries) in
    let rest = file_text (next ∷ meaning) in
    first_paragraph n entries (newline ∷ rest) are.0 is_blank-nil
    ∙ ap (λ paragraphs. paragraph_from n entries ∷ paragraphs) (behind_empty after rest ∙ paragraphs_of-file_text (after + 1) (next ∷ meaning) are.1)

-- the canonical text of the paragraph isn't too long
abbrev pub HasShortText : Entries → Type 0
HasShortText entries = length (paragraph_text entries) ≤ paragraph_limit

pub short-from_texts : (n : ℕ) (meaning : List Entries) → AllByRecursion HasShortText meaning → AllByRecursion IsShort (paragraphs_at n meaning)
short-from_texts n [] h = tt
short-from_texts n (entries ∷ meaning) h =
    (subst (λ k. k ≤ paragraph_limit) (sym (length-paragraph_text entries)) h.0, short-from_texts (n + length (paragraph_lines entries) + 1) meaning h.1)

pub texts-from_short : (n : ℕ) (meaning : List Entries) → AllByRecursion IsShort (paragraphs_at n meaning) → AllByRecursion HasShortText meaning
texts-from_short n [] h = tt
texts-from_short n (entries ∷ meaning) h =
    (subst (λ k. k ≤ paragraph_limit) (length-paragraph_text entries) h.0, texts-from_short (n + length (paragraph_lines entries) + 1) meaning h.1)

-- The paragraphs of a meaning's canonical text have that meaning.
use Rattle.deb_control.proofs.Common.{◌≡◌, ℕ, ◌+◌, true, List, [], ◌∷◌, ◌++◌, length, refl, sym, ap, ◌∙◌, subst, append-nil, AllByRecursion, Line, newline, is_blank, lines_of, Paragraph, begins_blank, paragraphs_from, paragraphs_of, SpellsParagraph, Entries, HaveMeanings, Means, paragraphs_from-run, IsNonempty, HoldNoBlank, HaveLines-paragraphs_from, paragraph_text, file_text}
use Rattle.deb_base.specs.Bodies.{paragraph_limit}
use Rattle.deb_control.proofs.Entries.{AreEntries, AreEntries-from_meanings}
use Rattle.deb_control.proofs.ParagraphText.{paragraph_lines, lines_of-paragraph_text, IsUtf8-paragraph_lines, HoldNoBlank-paragraph_lines, IsNonempty-paragraph_lines, fields_from, SpellsFields-paragraph_lines, AreDistinct-fields_from, entries_of-fields_from}

-- an empty line is blank
pub is_blank-nil : is_blank [] ≡ true
unfolding paragraph_limit
is_blank-nil = refl

abbrev pub paragraph_from : ℕ → Entries → Paragraph
paragraph_from n entries = record { first = n; lines = paragraph_lines entries }

-- the lines of a paragraph's canonical text are one paragraph, where a blank line or the end follows
run_of_lines : (n : ℕ) (lines rest : List Line) → IsNonempty lines → HoldNoBlank lines → begins_blank rest ≡ true → paragraphs_from n (lines ++ rest) ≡ record { first = n; lines = lines } ∷ paragraphs_from (n + length lines) rest
run_of_lines n [] rest some blank ends = absurd some
run_of_lines n (line ∷ lines) rest some blank ends = paragraphs_from-run n line lines rest blank ends

pub first_paragraph : (n : ℕ) (entries : Entries) (rest : List ℕ) → AreEntries entries → begins_blank (lines_of rest) ≡ true → paragraphs_from n (lines_of (paragraph_text entries ++ rest)) ≡ paragraph_from n entries ∷ paragraphs_from (n + length (paragraph_lines entries)) (lines_of rest)
first_paragraph n entries rest are ends =
    ap (paragraphs_from n) (lines_of-paragraph_text entries rest)
    ∙ run_of_lines n (paragraph_lines entries) (lines_of rest) (IsNonempty-paragraph_lines entries are.some) (HoldNoBlank-paragraph_lines entries are.each) ends

SpellsParagraph-paragraph_from : (n : ℕ) (entries : Entries) → AreEntries entries → SpellsParagraph (paragraph_from n entries) (fields_from n entries)
SpellsParagraph-paragraph_from n entries are = record {
  text = IsUtf8-paragraph_lines entries are.each;
  spelt = SpellsFields-paragraph_lines n entries are.each;
  distinct = AreDistinct-fields_from n entries are.each are.ascending;
}

HaveMeanings-first : (n : ℕ) (entries : Entries) (paragraphs : List Paragraph) (meaning : List Entries) → AreEntries entries → HaveMeanings paragraphs meaning → HaveMeanings (paragraph_from n entries ∷ paragraphs) (entries ∷ meaning)
HaveMeanings-first n entries paragraphs meaning are means =
    ((fields_from n entries, SpellsParagraph-paragraph_from n entries are, sym (entries_of-fields_from n entries are.each are.ascending)), means)

-- an empty line, and what follows it
pub behind_empty : (n : ℕ) (text : List ℕ) → paragraphs_from n (lines_of (newline ∷ text)) ≡ paragraphs_from (n + 1) (lines_of text)
behind_empty n text = rw is_blank-nil refl

pub HaveMeanings-file_text : (n : ℕ) (meaning : List Entries) → AllByRecursion AreEntries meaning → HaveMeanings (paragraphs_from n (lines_of (file_text meaning))) meaning
HaveMeanings-file_text n [] are = tt
HaveMeanings-file_text n (entries ∷ []) are =
    let whole = ap (λ text. paragraphs_from n (lines_of text)) (sym (append-nil (paragraph_text entries))) ∙ first_paragraph n entries [] are.0 refl in
    subst (λ paragraphs. HaveMeanings paragraphs (entries ∷ [])) (sym whole) (HaveMeanings-first n entries [] [] are.0 tt)
HaveMeanings-file_text n (entries ∷ next ∷ meaning) are =
    let after = n + length (paragraph_lines entries) in
    let rest = file_text (next ∷ meaning) in
    let whole =
    first_paragraph n entries (newline ∷ rest) are.0 is_blank-nil
    ∙ ap (λ paragraphs. paragraph_from n entries ∷ paragraphs) (behind_empty after rest) in
    subst (λ paragraphs. HaveMeanings paragraphs (entries ∷ next ∷ meaning)) (sym whole)
    (HaveMeanings-first n entries (paragraphs_from (after + 1) (lines_of rest)) (next ∷ meaning) are.0 (HaveMeanings-file_text (after + 1) (next ∷ meaning) are.1))

-- what a text means has the form of a meaning
pub AreEntries-from_means : (text : List ℕ) (meaning : List Entries) → Means text meaning → AllByRecursion AreEntries meaning
AreEntries-from_means text meaning means = AreEntries-from_meanings (paragraphs_of text) meaning (HaveLines-paragraphs_from 1 (lines_of text)) means

-- Laws of the definitions: what a paragraph's lines are, and that the judging of lines is the
-- grammar of fields. Debian Policy 5.1; deb822(5).
use Rattle.std.specs.Prelude.{◌≡◌, ◌≢◌, ◌⊎◌, ◌↔◌, ℕ, ◌+◌, ◌≤◌, ◌<◌, ◌==◌, true, false, cond, List, [], ◌∷◌, ◌++◌, length, Ok, Err, Option, Some, None, codes, refl}
use Rattle.std.specs.List.{AllByRecursion}
use Rattle.std.specs.List.Sorted.{IsPermutation}
use Rattle.std.specs.Str.{bytes_eq}
use Rattle.std.specs.FinMap.{find}
use Rattle.deb_base.specs.Names.{folded, canonical_name}
use Rattle.deb_base.specs.Codes.{number_of}
use Rattle.deb_base.specs.declared.refusal.Refusal.{Refusal}
use Rattle.deb_base.specs.Bodies.{Line, newline, HasNoNewline, is_blank, pieces_of, joined, file_limit}
use Rattle.deb_syntax.specs.Answers.{next_answer}
use Rattle.deb_syntax.specs.Lines.{with_newlines, begins_blank, Paragraph, lines_of, paragraphs_from, paragraphs_of}
use Rattle.deb_syntax.specs.Fields.{Field, AreDistinct, IsShort, SpellsParagraph}
use Rattle.deb_syntax.specs.Judging.{judged}
use Rattle.deb_syntax.specs.Meaning.{Entries, byte_order, entries_of, Means, Accepted}

-- Lines that can be a paragraph's: there is one, none holds a newline, and none is blank.
pub record IsRun (lines : List Line) : Type 0 where
  pub some : lines ≢ []
  pub no_newline : AllByRecursion HasNoNewline lines
  pub not_blank : AllByRecursion (λ line. is_blank line ≡ false) lines

-- A refusal of line n: its code is one of those of a line, from 1 to 7.
pub record IsLineRefusal (n : ℕ) (refusal : Refusal) : Type 0 where
  pub line : refusal.line ≡ n
  pub least : 1 ≤ number_of refusal.code
  pub most : number_of refusal.code ≤ 7

-- A refusal of one of the lines, where the first has number n.
pub record IsRefusalWithin (n : ℕ) (lines : List Line) (refusal : Refusal) : Type 0 where
  pub first : n ≤ refusal.line
  pub last : refusal.line < n + length lines
  pub least : 1 ≤ number_of refusal.code
  pub most : number_of refusal.code ≤ 7

-- A refusal of a text: its line is one of the text's, and its code one of those of a file, from 1
-- to 9.
pub record IsTextRefusal (text : List ℕ) (refusal : Refusal) : Type 0 where
  pub first : 1 ≤ refusal.line
  pub last : refusal.line ≤ length (lines_of text)
  pub least : 1 ≤ number_of refusal.code
  pub most : number_of refusal.code ≤ 9

-- a text with a newline at its end where it lacks, unless it is empty
abbrev pub with_last_newline : List ℕ → List ℕ
with_last_newline [] = []
with_last_newline (b ∷ []) = cond (b == newline) (b ∷ []) (b ∷ newline ∷ [])
with_last_newline (b ∷ c ∷ bs) = b ∷ with_last_newline (c ∷ bs)

-- Lines, the first with number n, are these paragraphs among blank lines: blank lines in
-- any number, then the lines of a paragraph, at least one and none of them blank, then the end or a
-- blank line, and so on.
abbrev pub AreRuns : ℕ → List Line → List Paragraph → Type 0
AreRuns n lines [] = AllByRecursion (λ line. is_blank line ≡ true) lines
AreRuns n lines (paragraph ∷ paragraphs) =
    (blanks : List Line) × (rest : List Line) × (lines ≡ blanks ++ (paragraph.lines ++ rest))
    × AllByRecursion (λ line. is_blank line ≡ true) blanks × (paragraph.first ≡ n + length blanks)
    × (paragraph.lines ≢ []) × AllByRecursion (λ line. is_blank line ≡ false) paragraph.lines
    × (begins_blank rest ≡ true) × AreRuns (n + length blanks + length paragraph.lines) rest
    paragraphs

-- The paragraph's lines are among the lines, the first with number n, at the paragraph's
-- own number.
pub record StandsAmong (n : ℕ) (lines : List Line) (paragraph : Paragraph) : Type 0 where
  pub before : List Line
  pub behind : List Line
  pub is : lines ≡ before ++ (paragraph.lines ++ behind)
  pub number : paragraph.first ≡ n + length before

-- what is under a canonical name in a meaning
abbrev pub body_at : List ℕ → Entries → Option (List ℕ)
body_at name entries = find byte_order name entries

-- the body of the first field that has the name, without ASCII case
abbrev pub body_of : List ℕ → List Field → Option (List ℕ)
body_of name [] = None
body_of name (field ∷ fields) =
    cond (bytes_eq (folded field.name) (folded name)) (Some field.body) (body_of name fields)

-- The first refusal of the paragraphs: those before it have fields.
abbrev pub IsFirstRefusal : List Paragraph → Refusal → Type 0
IsFirstRefusal [] refusal = ⊥
IsFirstRefusal (paragraph ∷ paragraphs) refusal =
    (judged paragraph.first paragraph.lines ≡ Err refusal)
    ⊎ ((fields : List Field) × (judged paragraph.first paragraph.lines ≡ Ok fields)
    × IsFirstRefusal paragraphs refusal)

-- What is judged of a paragraph that isn't too long is spelled by its lines. (A longer one is
-- refused before its lines are judged: its last line might hold more spaces than a blank line may,
-- and be cut off whole.)
abbrev pub JudgedIsSpelled : Type 0
JudgedIsSpelled =
    (n : ℕ) (lines : List Line) (fields : List Field) → IsRun lines
    → IsShort (record { first = n; lines = lines }) → judged n lines ≡ Ok fields
    → SpellsParagraph (record { first = n; lines = lines }) fields

-- The fields that a paragraph's lines spell are those that are judged.
abbrev pub SpelledIsJudged : Type 0
SpelledIsJudged =
    (n : ℕ) (lines : List Line) (fields : List Field) → IsRun lines
    → SpellsParagraph (record { first = n; lines = lines }) fields → judged n lines ≡ Ok fields

-- A refusal is of one of the lines, and lines spell no fields if one of them is refused.
abbrev pub RefusedIsNotSpelled : Type 0
RefusedIsNotSpelled =
    (n : ℕ) (lines : List Line) (refusal : Refusal) → judged n lines ≡ Err refusal
    → IsRefusalWithin n lines refusal
    × (IsRun lines → (fields : List Field)
    → ¬ (SpellsParagraph (record { first = n; lines = lines }) fields))

-- A paragraph is spelled by at most one list of fields.
abbrev pub ParagraphHasOneReading : Type 0
ParagraphHasOneReading =
    (paragraph : Paragraph) (fields others : List Field) → IsRun paragraph.lines
    → SpellsParagraph paragraph fields → SpellsParagraph paragraph others → fields ≡ others

-- A text means at most one thing.
abbrev pub TextHasOneMeaning : Type 0
TextHasOneMeaning =
    (text : List ℕ) (meaning other : List Entries) → Means text meaning → Means text other
    → meaning ≡ other

-- A text whose paragraphs aren't too long means something, or one of its paragraphs is the first
-- that is refused, and then it means nothing.
abbrev pub TextIsMeantOrRefused : Type 0
TextIsMeantOrRefused =
    (text : List ℕ) → AllByRecursion IsShort (paragraphs_of text)
    → ((meaning : List Entries) × Means text meaning)
    ⊎ ((refusal : Refusal) × IsFirstRefusal (paragraphs_of text) refusal
    × ((meaning : List Entries) → ¬ (Means text meaning)))

-- The paragraphs of lines are the maximal runs of lines that aren't blank, and no other list of
-- paragraphs is.
abbrev pub ParagraphsAreRuns : Type 0
ParagraphsAreRuns =
    (n : ℕ) (lines : List Line) (paragraphs : List Paragraph)
    → AreRuns n lines paragraphs ↔ (paragraphs ≡ paragraphs_from n lines)

-- Each paragraph of a text is a run of lines that is among the lines of the text, at its own
-- number.
abbrev pub ParagraphsStandInText : Type 0
ParagraphsStandInText =
    (text : List ℕ) → AllByRecursion (λ paragraph. IsRun paragraph.lines) (paragraphs_of text)
    × AllByRecursion (StandsAmong 1 (lines_of text)) (paragraphs_of text)

-- No line of a text holds a newline, and the lines, each with its newline, are the text with a
-- newline at its end.
abbrev pub LinesGiveTextBack : Type 0
LinesGiveTextBack =
    (text : List ℕ) → AllByRecursion HasNoNewline (lines_of text)
    × (with_newlines (lines_of text) ≡ with_last_newline text)

-- Lines without newlines are the lines of the text that they make.
abbrev pub TextGivesLinesBack : Type 0
TextGivesLinesBack =
    (lines : List Line) → AllByRecursion HasNoNewline lines → lines_of (with_newlines lines) ≡ lines

-- The pieces of a text, joined by newlines, are the text.
abbrev pub PiecesGiveTextBack : Type 0
PiecesGiveTextBack = (text : List ℕ) → joined (pieces_of text) ≡ text

-- Two paragraphs mean the same where the same is under each name.
abbrev pub MeaningIsItsBodies : Type 0
MeaningIsItsBodies =
    (fields others : List Field) → ((name : List ℕ)
    → body_at name (entries_of fields) ≡ body_at name (entries_of others))
    → entries_of fields ≡ entries_of others

-- Under the canonical spelling of a name is the body of the field that has the name.
abbrev pub MeaningHasBodies : Type 0
MeaningHasBodies =
    (fields : List Field) → AreDistinct fields → (name : List ℕ)
    → body_at (canonical_name name) (entries_of fields) ≡ body_of name fields

-- The order of the fields is no part of what a paragraph means.
abbrev pub OrderIsNoMeaning : Type 0
OrderIsNoMeaning =
    (fields others : List Field) → IsPermutation fields others → AreDistinct fields
    → entries_of fields ≡ entries_of others

-- No answer on an accepted file is a refusal.
abbrev pub AcceptedIsNeverRefused : Type 0
AcceptedIsNeverRefused =
    (text : List ℕ) (meaning : List Entries) → Accepted text meaning
    → (count : ℕ) (refusal : Refusal) → ¬ (next_answer text count ≡ Err refusal)

-- A file on which no answer is a refusal is accepted, with some meaning.
abbrev pub NeverRefusedIsAccepted : Type 0
NeverRefusedIsAccepted =
    (text : List ℕ) → ((count : ℕ) (refusal : Refusal) → ¬ (next_answer text count ≡ Err refusal))
    → (meaning : List Entries) × Accepted text meaning

-- An answer that is a refusal is one of the text.
abbrev pub RefusalIsOfText : Type 0
RefusalIsOfText =
    (text : List ℕ) (count : ℕ) (refusal : Refusal) → next_answer text count ≡ Err refusal
    → IsTextRefusal text refusal

-- The answers end exactly after the last paragraph of a text that isn't longer than a file may be.
abbrev pub AnswersEnd : Type 0
AnswersEnd =
    (text : List ℕ) (count : ℕ) → (next_answer text count ≡ Ok None)
    ↔ ((length text ≤ file_limit) × (length (paragraphs_of text) ≤ count))

newlines_back : with_newlines (lines_of (codes "a\n\nb")) ≡ codes "a\n\nb\n"
newlines_back = refl

last_newline_stays : with_last_newline (codes "a\n") ≡ codes "a\n"
last_newline_stays = refl

body_under_name : body_at (codes "Ab") (entries_of
    (record { name = codes "c"; line = 1; body = codes "1" }
    ∷ record { name = codes "aB"; line = 2; body = codes "2" } ∷ [])) ≡ Some (codes "2")
body_under_name = refl

body_of_name : body_of (codes "AB") (record { name = codes "c"; line = 1; body = codes "1" }
    ∷ record { name = codes "aB"; line = 2; body = codes "2" } ∷ []) ≡ Some (codes "2")
body_of_name = refl

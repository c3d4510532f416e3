-- What is answered to a program in C of all refusals of a file: Debian Policy 5.1, 5.3 to 5.6 and
-- 7.1. The table of refusals, and the lines, are this project's own.
use Rattle.std.specs.Prelude.{◌≡◌, ◌⊎◌, ℕ, List, [], ◌∷◌, ◌++◌, length, map, Option, None, Some, codes, refl}
use Rattle.std.specs.Fmt.{digits}
use Rattle.std.specs.List.{flat_map}
use Rattle.std.specs.Str.{is_utf8, chars}
use lib.Utf8.{encode}
use Rattle.deb_base.specs.Bodies.{paragraph_limit, file_limit}
use Rattle.deb_base.specs.Codes.{number_of}
use Rattle.deb_base.specs.declared.code.Code.TheVariants.{NotUtf8, NoColon, NoParagraph}
use Rattle.deb_base.specs.declared.doc.Doc.{Doc}
use Rattle.deb_base.specs.declared.doc.Doc.TheVariants.{Binary, Packages}
use Rattle.deb_base.specs.declared.refusal.Refusal.{Refusal}
use Rattle.deb_control.specs.Calls.{HasParagraphs}
use Rattle.deb_control.specs.Documents.{refusal_of}
use Rattle.deb_explain.specs.Escapes.{escaped_byte}
use Rattle.deb_explain.specs.Explanations.{WhyRefused}
use Rattle.deb_explain.specs.Paths.{is_hidden, path_byte}
use Rattle.deb_explain.specs.Texts.{code_lines, line_number, path_line, rule_line, rule_lines, subject_text, usually_line}
use Rattle.deb_explain.specs.AllExplanations.{explained_lines, explanations_of}
use Rattle.deb_control.specs.AllRefusals.{passed_of, refusals_of, total_line}
use Rattle.debctl_ffi.specs.Answers.{counting, refusing_some}
use Rattle.debctl_ffi.specs.Documents.{OfKind}
use Rattle.debctl_ffi.specs.Explaining.{explanation_lines}
use Rattle.debctl_ffi.specs.declared.answer.Answer.{Answer}
use Rattle.debctl_ffi.specs.declared.refusal_row.RefusalRow.{RefusalRow}

-- ---- the table

-- the row of a refusal, and the rows of several
abbrev pub row_of : Refusal → RefusalRow
row_of refusal = record { line = refusal.line; code = number_of refusal.code }

abbrev pub rows_of : List Refusal → List RefusalRow
rows_of refusals = map row_of refusals

worked-rows : (rows_of [] ≡ [])
    × (rows_of (record { code = NoColon; line = 7 } ∷ record { code = NotUtf8; line = 9 } ∷ [])
    ≡ record { line = 7; code = 6 } ∷ record { line = 9; code = 1 } ∷ [])
worked-rows = (refl, refl)

-- ---- the lines

-- the lines of a refusal, and an empty line
abbrev pub block_lines : WhyRefused → List ℕ
block_lines why = explanation_lines why ++ codes "\n"

abbrev pub blocks_of : List WhyRefused → List ℕ
blocks_of whys = flat_map block_lines whys

-- the lines of all refusals of a file, and the last line
abbrev pub all_lines : Doc → List ℕ → List ℕ
all_lines doc text =
    blocks_of (explanations_of doc text)
    ++ total_line (passed_of doc text) (length (refusals_of doc text))

-- a file without a paragraph: none is asked for, and one is; with a path its line comes first
worked-lines : (all_lines Packages [] ≡ codes "ok 0, 0 refused\n")
    × (all_lines Binary [] ≡ codes "line: 1\ncode: 10\nname: NoParagraph\n"
    ++ (rule_lines NoParagraph ++ codes "\nok 0, 1 refused\n"))
    × (explained_lines (codes "a") Binary [] ≡ codes "file: a\n" ++ all_lines Binary [])
unfolding file_limit paragraph_limit is_utf8 chars encode digits line_number code_lines
    subject_text rule_lines rule_line usually_line path_line is_hidden path_byte escaped_byte
worked-lines = (refl, refl, refl)

-- ---- what is found in a file

-- the answer for a file with this first refusal, if it has one, of which so many paragraphs pass
abbrev pub answer_to_all : Option Refusal → ℕ → Answer
answer_to_all None passed = counting 0 passed
answer_to_all (Some first) passed = refusing_some first passed

worked-answers : (answer_to_all None 3 ≡ record { status = 0; code = 0; line = 0; count = 3 })
    × (answer_to_all (Some (record { code = NoColon; line = 7 })) 3
    ≡ record { status = 2; code = 6; line = 7; count = 3 })
worked-answers = (refl, refl)

-- Nothing is refused: the file is accepted, and this is the answer with the number of its
-- paragraphs.
pub record NothingRefused (doc : Doc) (text : List ℕ) (answer : Answer) : Type 0 where
  pub none : refusals_of doc text ≡ []
  pub has : HasParagraphs doc text answer.count
  pub is : answer ≡ counting 0 answer.count

-- Some of it is refused, and this is the answer with the first refusal, which is the one of the
-- file, and with the number of paragraphs that pass.
pub record SomeRefused (doc : Doc) (text : List ℕ) (answer : Answer) : Type 0 where
  pub first : Refusal
  pub more : List Refusal
  pub all : refusals_of doc text ≡ first ∷ more
  pub refused : refusal_of doc text ≡ Some first
  pub is : answer ≡ refusing_some first (passed_of doc text)

abbrev pub AnswersAll : Doc → List ℕ → Answer → Type 0
AnswersAll doc text answer = NothingRefused doc text answer ⊎ SomeRefused doc text answer

-- These are the answer, and the rows or the lines of all refusals; without a refusal there is the
-- last line alone.
pub record TablesFile (doc : Doc) (text : List ℕ) (answer : Answer) (rows : List RefusalRow)
    : Type 0 where
  pub answers : AnswersAll doc text answer
  pub are : rows ≡ rows_of (refusals_of doc text)

pub record ExplainsFile (doc : Doc) (text : List ℕ) (answer : Answer) (lines : List ℕ)
    : Type 0 where
  pub answers : AnswersAll doc text answer
  pub are : lines ≡ all_lines doc text
  pub alone : refusals_of doc text ≡ [] → lines ≡ total_line answer.count 0

-- ---- answers

-- These are the answer and the rows of all refusals of the file, as a document of the kind; or the
-- answer and the lines.
abbrev pub ChecksAll : ℕ → List ℕ → Answer → List RefusalRow → Type 0
ChecksAll kind text told rows = OfKind kind (λ doc. TablesFile doc text told rows)

abbrev pub ExplainsAll : ℕ → List ℕ → Answer → List ℕ → Type 0
ExplainsAll kind text told lines = OfKind kind (λ doc. ExplainsFile doc text told lines)

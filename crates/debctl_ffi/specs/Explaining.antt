-- What is answered to a program in C of why a file is refused: Debian Policy 5.1, 5.3 to 5.6 and
-- 7.1. The lines are those of the program `debctl explain`, without the one of the file's path;
-- their form is this project's own.
use Rattle.std.specs.Prelude.{◌≡◌, ◌⊎◌, ℕ, List, [], ◌∷◌, ◌++◌, Some, codes, refl}
use Rattle.std.specs.Fmt.{decimal, digits}
use Rattle.deb_base.specs.Bodies.{newline}
use Rattle.deb_base.specs.declared.code.Code.TheVariants.{NoColon}
use Rattle.deb_base.specs.declared.doc.Doc.{Doc}
use Rattle.deb_control.specs.Calls.{HasParagraphs}
use Rattle.deb_control.specs.Documents.{refusal_of}
use Rattle.deb_explain.specs.Escapes.{escaped_byte, front_of, shortened, shown_line}
use Rattle.deb_explain.specs.Explanations.{WhyRefused, explanation_of}
use Rattle.deb_explain.specs.Subjects.{AboutLine}
use Rattle.deb_explain.specs.Texts.{code_lines, line_number, rule_lines, subject_text}
use Rattle.debctl_ffi.specs.Answers.{counting, refusing}
use Rattle.debctl_ffi.specs.Documents.{OfKind}
use Rattle.debctl_ffi.specs.declared.answer.Answer.{Answer}

-- ---- lines

-- the line of an accepted file, with the number of its paragraphs
abbrev pub ok_line : ℕ → List ℕ
ok_line n = codes "ok " ++ (decimal n ++ newline ∷ [])

-- the lines of a refused one
abbrev pub explanation_lines : WhyRefused → List ℕ
explanation_lines why =
    line_number why.refusal.line
    ++ (code_lines why.refusal.code
    ++ (subject_text why.refusal.line why.about ++ rule_lines why.refusal.code))

lines_of_refused_files : explanation_lines (record {
  refusal = record { code = NoColon; line = 7 };
  about = AboutLine (codes "x");
}) ≡ codes "line: 7\ncode: 6\nname: NoColon\nvalue: x\n" ++ rule_lines NoColon
unfolding digits shown_line shortened front_of escaped_byte line_number code_lines subject_text
lines_of_refused_files = refl

lines_of_accepted_files : (ok_line 0 ≡ codes "ok 0\n") × (ok_line 120 ≡ codes "ok 120\n")
unfolding digits
lines_of_accepted_files = (refl, refl)

-- ---- the explanation of a file

-- The file is accepted, and these are its answer and its line.
pub record AcceptedText (doc : Doc) (text : List ℕ) (answer : Answer) (bytes : List ℕ)
    : Type 0 where
  pub has : HasParagraphs doc text answer.count
  pub is : answer ≡ counting 0 answer.count
  pub line : bytes ≡ ok_line answer.count

-- The file is refused, and these are the answer of that refusal and the lines of its explanation.
pub record RefusedText (doc : Doc) (text : List ℕ) (answer : Answer) (bytes : List ℕ)
    : Type 0 where
  pub why : WhyRefused
  pub explained : explanation_of doc text ≡ Some why
  pub refused : refusal_of doc text ≡ Some why.refusal
  pub is : answer ≡ refusing 2 why.refusal
  pub lines : bytes ≡ explanation_lines why

abbrev pub ExplainedText : Doc → List ℕ → Answer → List ℕ → Type 0
ExplainedText doc text answer bytes =
    AcceptedText doc text answer bytes ⊎ RefusedText doc text answer bytes

-- ---- answers

-- These are the answer and the text that explain the file, as a document of the kind.
abbrev pub Explains : ℕ → List ℕ → Answer → List ℕ → Type 0
Explains kind text told bytes = OfKind kind (λ doc. ExplainedText doc text told bytes)

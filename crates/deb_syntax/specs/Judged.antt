-- The paragraph whose lines were judged last, and its lines by their numbers. Debian Policy 5.1;
-- the limits and the order of the refusals are this project's own.
use Rattle.std.specs.Prelude.{◌≡◌, ℕ, ◌-◌, ◌≤◌, Bool, true, false, cond, List, [], ◌∷◌, nat_le, slice_get, slice_range, Option, Some, None, Result, Ok, Err, codes, refl}
use Rattle.std.specs.Str.{is_utf8, chars}
use lib.Utf8.{encode}
use Rattle.std.proofs.Common.{arith}
use Rattle.deb_base.specs.Bodies.{Line, paragraph_limit, pieces_of, file_limit}
use Rattle.deb_base.specs.Codes.{number_of}
use Rattle.deb_base.specs.Faults.{IsReadersFault}
use Rattle.deb_base.specs.declared.code.Code.{Code}
use Rattle.deb_base.specs.declared.code.Code.TheVariants.{NoColon, DuplicateField, ParagraphTooLong, FileTooLong}
use Rattle.deb_base.specs.declared.fault.Fault.{Fault}
use Rattle.deb_base.specs.declared.refusal.Refusal.{Refusal}
use Rattle.deb_syntax.specs.Answers.{Seen, next_answer, paragraphs_within}
use Rattle.deb_syntax.specs.Lines.{Paragraph}
use Rattle.deb_syntax.specs.declared.paragraphs.CurrentParagraph.{CurrentParagraph}

-- whether a refusal with the code is one of a line: its number is from 1 to 7
abbrev pub is_of_line : Code → Bool
is_of_line code = nat_le (number_of code) 7

-- the next paragraph, where this answer is what is judged of its lines: not that it, or the
-- file, is too long
abbrev pub judged_by : Result (Option Seen) Refusal → Option Paragraph → Option Paragraph
judged_by (Ok None) next = None
judged_by (Ok (Some seen)) next = next
judged_by (Err refusal) next = cond (is_of_line refusal.code) next None

-- the paragraph after the first `count` ones of a text, where its lines are judged
abbrev pub judged_behind : List ℕ → ℕ → Option Paragraph
judged_behind text count =
    judged_by (next_answer text count) (slice_get (paragraphs_within text) count)

-- the lines that are in a buffer
abbrev pub lines_standing : List ℕ → CurrentParagraph → Paragraph
lines_standing buffer at =
    record { first = at.first_line; lines = pieces_of (slice_range buffer at.from at.to) }

-- the line of a number, if the paragraph has it
abbrev pub line_among : ℕ → Paragraph → Option Line
line_among number p = cond (nat_le p.first number) (slice_get p.lines (number - p.first)) None

abbrev pub line_judged : ℕ → Option Paragraph → Option Line
line_judged number None = None
line_judged number (Some p) = line_among number p

-- after the first `count` paragraphs of a text, an answer about the text shows what was
-- judged
abbrev pub ShowsJudged : List ℕ → ℕ → Result (Option Seen) Fault → Option Paragraph → Type 0
ShowsJudged text count (Ok seen) last = last ≡ judged_behind text count
ShowsJudged text count (Err fault) last =
    IsReadersFault fault (λ _. last ≡ judged_behind text count)

-- a refusal of a length has the code of a paragraph, or of a file, that is too long
pub record IsRefusalOfLength (refusal : Refusal) : Type 0 where
  pub least : 8 ≤ number_of refusal.code
  pub most : number_of refusal.code ≤ 9
  pub line : 1 ≤ refusal.line

codes_of_lines : (is_of_line DuplicateField ≡ true) × (is_of_line NoColon ≡ true)
    × (is_of_line ParagraphTooLong ≡ false) × (is_of_line FileTooLong ≡ false)
codes_of_lines = (refl, refl, refl, refl)

-- for the worked cases: two paragraphs, where the second has a line without colon
abbrev sample : List ℕ
sample = codes "a:1\n\nb:2\nc\n"

abbrev second : Paragraph
second = record { first = 3; lines = codes "b:2" ∷ codes "c" ∷ [] }

-- one that passes, one whose lines are refused, and none
paragraphs_judged : (judged_behind sample 0
    ≡ Some (record { first = 1; lines = codes "a:1" ∷ [] }))
    × (judged_behind sample 1 ≡ Some second) × (judged_behind sample 2 ≡ None)
unfolding paragraph_limit file_limit is_utf8 chars encode
paragraphs_judged = (refl, refl, refl)

-- nothing is judged of one that is too long
long_unjudged : (judged_by (Err (record { code = ParagraphTooLong; line = 4 })) (Some second)
    ≡ None)
    × (judged_by (Ok (Some (record { first = 3; fields = [] }))) (Some second) ≡ Some second)
    × (judged_by (Ok None) (Some second) ≡ None)
long_unjudged = (refl, refl, refl)

-- its lines, and such as it hasn't
lines_among : (line_judged 3 (Some second) ≡ Some (codes "b:2"))
    × (line_judged 4 (Some second) ≡ Some (codes "c")) × (line_judged 5 (Some second) ≡ None)
    × (line_judged 2 (Some second) ≡ None) × (line_judged 3 None ≡ None)
lines_among = (refl, refl, refl, refl, refl)

lines_in_buffer : lines_standing (codes "\n\nb:2\nc\nd")
    (record { from = 2; to = 7; first_line = 3 }) ≡ second
lines_in_buffer = refl

lengths_refused : IsRefusalOfLength (record { code = FileTooLong; line = 1 })
lengths_refused = record { least = omega arith; most = omega arith; line = omega arith }

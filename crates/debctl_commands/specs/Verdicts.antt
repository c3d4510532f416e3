-- What is demanded of an accepted file, and what is found of it. The demands, the words and the
-- statuses are this project's own.
use Rattle.std.specs.Prelude.{◌≡◌, ℕ, ◌||◌, Bool, true, false, not, nat_lt, if◌then◌else◌, List, [], ◌∷◌, ◌++◌, map, Option, Some, Result, IfOk, IfErr, codes, refl}
use Rattle.std.specs.Fmt.{decimal, digits}
use Rattle.std.specs.List.{concat}
use Rattle.deb_base.specs.Bodies.{newline}
use Rattle.deb_base.specs.Devices.{read_failures_after}
use Rattle.deb_base.specs.Faults.{IsReadersFault}
use Rattle.deb_base.specs.declared.doc.Doc.{Doc}
use Rattle.deb_base.specs.declared.fault.Fault.{Fault}
use Rattle.deb_control.specs.Calls.{HasParagraphs, IfRefused}
use Rattle.deb_control.specs.Checking.{IsRefusalOfDocument}
use Rattle.deb_control.specs.Documents.{refusal_of}
use Rattle.deb_syntax.specs.Lines.{ends_line}
use Rattle.debctl_commands.specs.DocumentJobs.{ok_line}
use Rattle.debctl_commands.specs.Taking.{TakesFile}
use Rattle.debctl_commands.specs.declared.verdict.Verdict.{Verdict}
use Rattle.debctl_commands.specs.declared.verdict.Verdict.TheVariants.{Whole, NoNewline, TooFew}
use Rattle.debctl_args.specs.declared.jobs.Demands.{Demands}

-- ---- verdicts

-- what is found, by whether the end is as demanded, the fewest paragraphs and those that are there:
-- the end goes first
abbrev pub verdict_by : Bool → ℕ → ℕ → Verdict
verdict_by false least n = NoNewline
verdict_by true least n = if nat_lt n least then TooFew n least else Whole n

-- what is found of a text of so many paragraphs: an empty one ends as demanded
abbrev pub verdict_of : Demands → List ℕ → ℕ → Verdict
verdict_of demands text n = verdict_by (not demands.complete || ends_line text) demands.least n

abbrev pub too_few_words : ℕ → ℕ → List ℕ
too_few_words n least =
    concat (codes "incomplete: " ∷ decimal n ∷ codes " of at least " ∷ decimal least
    ∷ codes " paragraphs" ∷ [])

abbrev pub verdict_words : Verdict → List ℕ
verdict_words (Whole n) = concat (codes "ok " ∷ decimal n ∷ [])
verdict_words NoNewline = codes "incomplete: no newline at the end"
verdict_words (TooFew n least) = too_few_words n least

abbrev pub verdict_line : Verdict → List ℕ
verdict_line verdict = verdict_words verdict ++ newline ∷ []

-- the status of a file that is accepted: 0 if it meets the demands, else 2
abbrev pub verdict_status : Verdict → ℕ
verdict_status (Whole n) = 0
verdict_status NoNewline = 2
verdict_status (TooFew n least) = 2

-- The text is accepted, and this is found of it.
pub record Finds (doc : Doc) (demands : Demands) (text : List ℕ) (verdict : Verdict)
    : Type 0 where
  pub count : ℕ
  pub paragraphs : HasParagraphs doc text count
  pub is : verdict ≡ verdict_of demands text count

-- What is answered of a file, and taken of it: by the text that its reader has before and after,
-- and the reader's counts of failed calls.
pub record AnswersFile (doc : Doc) (demands : Demands) (left left_after : Option (List ℕ))
    (count count_after : ℕ) (answer : Result Verdict Fault) : Type 0 where
  pub ok : (text : List ℕ) → left ≡ Some text → IfOk answer (Finds doc demands text)
  pub refused : (text : List ℕ) → left ≡ Some text →
      IfRefused answer (λ refusal. refusal_of doc text ≡ Some refusal)
  pub fault : IfErr answer (λ fault. IsReadersFault fault IsRefusalOfDocument)
  pub reads : count_after ≡ read_failures_after count answer
  pub reads_at_most : TakesFile left left_after

-- ---- worked cases

-- for the worked cases: what is demanded
abbrev pub demand : Bool → ℕ → Demands
demand complete least = record { complete = complete; least = least }

-- a last newline that is there, missing, or not asked for; an empty file has none to miss
ends : map (λ text. verdict_of (demand true 0) text 1)
    (codes "A: b\n" ∷ codes "A: b" ∷ codes "A: b\n\n" ∷ codes "A: b\n " ∷ [] ∷ [])
    ≡ Whole 1 ∷ NoNewline ∷ Whole 1 ∷ NoNewline ∷ Whole 1 ∷ []
ends = refl

unasked_end : verdict_of (demand false 0) (codes "A: b") 1 ≡ Whole 1
unasked_end = refl

-- fewer paragraphs than are demanded, as many, and more; an empty file has 0
fewest : map (verdict_of (demand false 2) (codes "A: b")) (0 ∷ 1 ∷ 2 ∷ 3 ∷ [])
    ≡ TooFew 0 2 ∷ TooFew 1 2 ∷ Whole 2 ∷ Whole 3 ∷ []
fewest = refl

fewest_of_nothing : (verdict_of (demand true 1) [] 0 ≡ TooFew 0 1)
    × (verdict_of (demand true 0) [] 0 ≡ Whole 0)
fewest_of_nothing = (refl, refl)

-- the end goes before the number
both_lack : (verdict_of (demand true 2) (codes "A: b") 1 ≡ NoNewline)
    × (verdict_of (demand true 2) (codes "A: b\n") 1 ≡ TooFew 1 2)
both_lack = (refl, refl)

words_of_verdicts : map verdict_line (Whole 120 ∷ NoNewline ∷ TooFew 1 30 ∷ [])
    ≡ codes "ok 120\n" ∷ codes "incomplete: no newline at the end\n"
    ∷ codes "incomplete: 1 of at least 30 paragraphs\n" ∷ []
unfolding digits
words_of_verdicts = refl

line_of_whole : verdict_line (Whole 7) ≡ ok_line 7
unfolding digits
line_of_whole = refl

statuses_of_verdicts : map verdict_status (Whole 0 ∷ Whole 9 ∷ NoNewline ∷ TooFew 0 1 ∷ [])
    ≡ 0 ∷ 0 ∷ 2 ∷ 2 ∷ []
statuses_of_verdicts = refl

-- What the jobs of `explain` answer. The form of what is reported is this project's own.
use Rattle.std.specs.Prelude.{◌≡◌, ◌⊎◌, ℕ, Bool, true, false, List, [], ◌∷◌, ◌++◌, Option, Some}
use Rattle.std.specs.Prelude.{None, Result, ⊤, IfOk, IfErr, codes, is_none, refl}
use Rattle.std.specs.Io.KnownBytes.{Appends}
use Rattle.std.specs.Fmt.{digits}
use Rattle.std.specs.Str.{is_utf8, chars}
use lib.Utf8.{encode}
use Rattle.deb_base.specs.Bodies.{newline}
use Rattle.deb_base.specs.Devices.{AppendsFront, Puts, read_failures_after, write_failures_after}
use Rattle.deb_base.specs.Faults.{MatchFault}
use Rattle.deb_base.specs.declared.code.Code.{Code}
use Rattle.deb_base.specs.declared.code.Code.TheVariants.{BadVersion}
use Rattle.deb_base.specs.declared.fault.Fault.{Fault}
use Rattle.deb_base.specs.declared.fault.Fault.TheVariants.{Refused, Memory, Read, Write}
use Rattle.deb_version.specs.declared.fault.BadVersion.TheVariants.{Empty, UpstreamByte}
use Rattle.deb_explain.specs.Explanations.{WhyRefused, explanation_of}
use Rattle.deb_explain.specs.Causes.{word_cause}
use Rattle.deb_explain.specs.Escapes.{escaped_byte, front_of, shortened, shown_line}
use Rattle.deb_explain.specs.Paths.{is_hidden, path_byte}
use Rattle.deb_explain.specs.Texts.{explanation_text, file_line, path_line, rule_text, word_text}
use Rattle.deb_explain.specs.Texts.{code_lines, rule_lines, word_cause_text}
use Rattle.deb_explain.specs.Texts.{place_of, place_within, reason_of, version_reason}
use Rattle.deb_explain.specs.declared.cause.Cause.{Cause}
use Rattle.deb_explain.specs.declared.cause.Cause.TheVariants as cause
use Rattle.deb_explain.specs.declared.cause.Word.{Word}
use Rattle.deb_explain.specs.declared.cause.Word.TheVariants as words
use Rattle.deb_base.specs.declared.doc.Doc.{Doc}
use Rattle.deb_control.specs.Calls.{IfRefused, IfWriteFailed}
use Rattle.deb_select.specs.Explaining.{WritesLines, condition_lines}
use Rattle.deb_select.specs.Grammar.{condition_refusal}
use Rattle.debctl_commands.specs.DocumentJobs.{IfNotWritten, WritesOk, WritesFrontOfOk}
use Rattle.debctl_commands.specs.Unopened.{unopened_words}
use Rattle.debctl_commands.specs.declared.unopened.Unopened.{Unopened}
use Rattle.debctl_commands.specs.declared.unopened.Unopened.TheVariants.{NotFound}

-- the status of an answer that is there: 0 where the text is accepted, 2 where it is refused
abbrev pub explain_status : Bool → ℕ
explain_status true = 0
explain_status false = 2

-- The text is refused, and exactly its explanation was written.
pub record WritesExplanation (doc : Doc) (path text : List ℕ) (old new : Option (List ℕ))
    : Type 0 where
  pub reported : WhyRefused
  pub explained : explanation_of doc text ≡ Some reported
  pub written : Appends old new (explanation_text path reported)

-- A file was judged and reported: that it is accepted, or its explanation.
abbrev pub WritesAnswer : Doc → List ℕ → List ℕ → Option (List ℕ) → Option (List ℕ) → Bool → Type 0
WritesAnswer doc path text old new true = WritesOk doc text old new
WritesAnswer doc path text old new false = WritesExplanation doc path text old new

-- A prefix of that was written, before a write failed.
pub record WritesFrontOfExplanation (doc : Doc) (path text : List ℕ) (old new : Option (List ℕ))
    : Type 0 where
  pub reported : WhyRefused
  pub explained : explanation_of doc text ≡ Some reported
  pub written : AppendsFront old new (explanation_text path reported)

abbrev pub WritesFront : Doc → List ℕ → List ℕ → Option (List ℕ) → Option (List ℕ) → Type 0
WritesFront doc path text old new =
    WritesFrontOfOk doc text old new ⊎ WritesFrontOfExplanation doc path text old new

-- there is no other fault than out of memory, before which the one fact holds, and a write that
-- failed, after which the other one does
abbrev pub IsMemoryOrWrite : Type 0 → Type 0 → Fault → Type 0
IsMemoryOrWrite memory write fault = MatchFault fault (λ _. ⊥) memory ⊥ write

-- The answer to a file, and what it wrote: by the reader's text, its count of failed calls before
-- and after, and the writer before and after.
pub record Explains {W : Type 0} (doc : Doc) (path : List ℕ) (left : Option (List ℕ))
    (count count_after : ℕ) (held : W → Option (List ℕ)) (failures : W → ℕ) (old new : W)
    (answer : Result Bool Fault) : Type 0 where
  pub ok : (text : List ℕ) → left ≡ Some text →
      IfOk answer (WritesAnswer doc path text (held old) (held new))
  pub write : (text : List ℕ) → left ≡ Some text →
      IfWriteFailed answer (WritesFront doc path text (held old) (held new))
  pub unrefused : IfRefused answer (λ _. ⊥)
  pub unwritten : IfNotWritten answer (new ≡ old)
  pub reads : count_after ≡ read_failures_after count answer
  pub writes : failures new ≡ write_failures_after (failures old) answer

-- The answer to a code, and what it wrote.
pub record WritesRule {W : Type 0} (code : Code) (held : W → Option (List ℕ)) (failures : W → ℕ)
    (old new : W) (answer : Result ⊤ Fault) : Type 0 where
  pub written : Puts (held old) (held new) answer (rule_text code)
  pub writes : failures new ≡ write_failures_after (failures old) answer

-- what is written of a word of the command line: that it is good, or why it is refused
abbrev pub word_answer : Word → List ℕ → Option Cause → List ℕ
word_answer kind word None = codes "ok\n"
word_answer kind word (Some why) = word_text kind why word

-- whether it is good
abbrev pub is_good : Option Cause → Bool
is_good None = true
is_good (Some why) = false

-- The answer to a word of the command line, and what it wrote; no memory was found before that, or
-- a write failed.
pub record ExplainsWord {W : Type 0} (kind : Word) (word : List ℕ) (held : W → Option (List ℕ))
    (failures : W → ℕ) (old new : W) (answer : Result Bool Fault) : Type 0 where
  pub ok : IfOk answer (λ good. (good ≡ is_good (word_cause kind word))
      × Appends (held old) (held new) (word_answer kind word (word_cause kind word)))
  pub fault : IfErr answer (IsMemoryOrWrite (new ≡ old)
      (AppendsFront (held old) (held new) (word_answer kind word (word_cause kind word))))
  pub writes : failures new ≡ write_failures_after (failures old) answer

-- The answer to the text of a condition on documents of a kind, and what it wrote: whether it is
-- one, and the lines of `deb_select`; a prefix of them before a failed write, and nothing without
-- memory.
pub record ExplainsCondition {W : Type 0} (doc : Doc) (text : List ℕ)
    (held : W → Option (List ℕ)) (failures : W → ℕ) (old new : W) (answer : Result Bool Fault)
    : Type 0 where
  pub good : IfOk answer (λ good. good ≡ is_none (condition_refusal doc text))
  pub written : WritesLines (condition_lines doc text) answer (held old) (held new)
  pub writes : failures new ≡ write_failures_after (failures old) answer

-- what is written of a file that can't be opened
abbrev pub unopened_text : List ℕ → Unopened → List ℕ
unopened_text path why =
    file_line path
    ++ (codes "fault: read\nreason: " ++ (unopened_words why ++ newline ∷ []))

statuses_of_answers : (explain_status true ≡ 0) × (explain_status false ≡ 2)
statuses_of_answers = (refl, refl)

good_words : (is_good None ≡ true) × (is_good (Some (cause.Version Empty 0)) ≡ false)
good_words = (refl, refl)

text_of_good_word : (word_answer words.Version (codes "1") None ≡ codes "ok\n")
    × (word_answer words.Relation [] None ≡ codes "ok\n")
text_of_good_word = (refl, refl)

text_of_bad_word : word_answer words.Version (codes "1_2") (Some (cause.Version (UpstreamByte 1) 0))
    ≡ codes "code: 18\nname: BadVersion\nplace: 1\nreason: UpstreamByte\nvalue: 1_2\n"
    ++ rule_lines BadVersion
unfolding digits shown_line shortened front_of escaped_byte code_lines word_cause_text place_of
    place_within reason_of version_reason
text_of_bad_word = refl

text_of_unopened : unopened_text (codes "a\tb") NotFound
    ≡ codes "file: a\\tb\nfault: read\nreason: no such file or directory\n"
unfolding path_line is_utf8 chars encode is_hidden path_byte escaped_byte
text_of_unopened = refl

-- other faults than two are none of these answers
faults_of_explain :
    (IsMemoryOrWrite ℕ Bool (Refused (record { code = BadVersion; line = 1 })) ≡ ⊥)
    × (IsMemoryOrWrite ℕ Bool Memory ≡ ℕ) × (IsMemoryOrWrite ℕ Bool Read ≡ ⊥)
    × (IsMemoryOrWrite ℕ Bool Write ≡ Bool)
faults_of_explain = (refl, refl, refl, refl)

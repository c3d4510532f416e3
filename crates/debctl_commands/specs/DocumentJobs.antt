-- What the jobs on files answer. The line of `check` is this project's own; acceptance, refusals
-- and canonical text are those of documents of a kind (Debian Policy 5.1 and 5.3 to 5.6).
use Rattle.std.specs.Prelude.{◌≡◌, ℕ, List, [], ◌∷◌, ◌++◌, Option, Some, Result, Ok, Err, IfOk}
use Rattle.std.specs.Prelude.{codes, refl}
use Rattle.std.specs.Fmt.{decimal, digits}
use Rattle.std.specs.Io.KnownBytes.{Appends}
use Rattle.deb_base.specs.Bodies.{newline}
use Rattle.deb_base.specs.Devices.{AppendsFront, read_failures_after, write_failures_after}
use Rattle.deb_base.specs.Faults.{MatchFault}
use Rattle.deb_base.specs.declared.code.Code.TheVariants.{NoColon}
use Rattle.deb_base.specs.declared.fault.Fault.{Fault}
use Rattle.deb_base.specs.declared.fault.Fault.TheVariants.{Refused, Memory, Read, Write}
use Rattle.deb_base.specs.declared.doc.Doc.{Doc}
use Rattle.deb_control.specs.Calls.{HasParagraphs, IfCutOff, IfRefused, IfWriteFailed}
use Rattle.deb_control.specs.Calls.{WritesCanonical, WritesRead, WritesRefused}
use Rattle.deb_control.specs.Checking.{IsRefusalOfDocument}
use Rattle.deb_control.specs.Documents.{out_of, refusal_of}

-- the line of a file that is accepted, with the number of its paragraphs
abbrev pub ok_line : ℕ → List ℕ
ok_line n = codes "ok " ++ (decimal n ++ newline ∷ [])

-- a fact for every answer that comes before the first write
abbrev pub IfNotWritten : {T : Type 0} → Result T Fault → Type 0 → Type 0
IfNotWritten (Ok _) P = Unit {0}
IfNotWritten (Err fault) P = MatchFault fault (λ _. P) P P (Unit {0})

-- ---- check

-- The file is accepted, and exactly the line that says so was written; or a prefix of it was,
-- before a write failed.
pub record WritesOk (doc : Doc) (text : List ℕ) (old new : Option (List ℕ)) : Type 0 where
  pub count : ℕ
  pub paragraphs : HasParagraphs doc text count
  pub written : Appends old new (ok_line count)

pub record WritesFrontOfOk (doc : Doc) (text : List ℕ) (old new : Option (List ℕ)) : Type 0 where
  pub count : ℕ
  pub paragraphs : HasParagraphs doc text count
  pub written : AppendsFront old new (ok_line count)

-- The answer to `check`, and what it wrote: by the reader's text, its count of failed calls before
-- and after, and the writer before and after.
pub record ChecksFile {T W : Type 0} (doc : Doc) (left : Option (List ℕ)) (count count_after : ℕ)
    (held : W → Option (List ℕ)) (failures : W → ℕ) (old new : W) (answer : Result T Fault)
    : Type 0 where
  pub ok : (text : List ℕ) → left ≡ Some text →
      IfOk answer (λ _. WritesOk doc text (held old) (held new))
  pub refused : (text : List ℕ) → left ≡ Some text →
      IfRefused answer (λ refusal. refusal_of doc text ≡ Some refusal)
  pub write : (text : List ℕ) → left ≡ Some text →
      IfWriteFailed answer (WritesFrontOfOk doc text (held old) (held new))
  pub refusal : IfRefused answer IsRefusalOfDocument
  pub unwritten : IfNotWritten answer (new ≡ old)
  pub reads : count_after ≡ read_failures_after count answer
  pub writes : failures new ≡ write_failures_after (failures old) answer

-- ---- normalise

-- The answer to `normalise`, and what it wrote.
pub record NormalisesFile {W : Type 0} (doc : Doc) (left : Option (List ℕ)) (count count_after : ℕ)
    (held : W → Option (List ℕ)) (failures : W → ℕ) (old new : W) (answer : Result ℕ Fault)
    : Type 0 where
  pub ok : (text : List ℕ) → left ≡ Some text →
      IfOk answer (λ n. WritesCanonical doc text n (held old) (held new))
  pub refused : (text : List ℕ) → left ≡ Some text →
      IfRefused answer (λ refusal. WritesRefused doc text refusal (held old) (held new))
  pub cut_off : (text : List ℕ) → left ≡ Some text →
      IfCutOff answer (WritesRead doc text (held old) (held new))
  pub write : (text : List ℕ) → left ≡ Some text →
      IfWriteFailed answer (AppendsFront (held old) (held new) (out_of doc text))
  pub refusal : IfRefused answer IsRefusalOfDocument
  pub reads : count_after ≡ read_failures_after count answer
  pub writes : failures new ≡ write_failures_after (failures old) answer

line_of_nothing : ok_line 0 ≡ codes "ok 0\n"
unfolding digits
line_of_nothing = refl

line_of_many : ok_line 120 ≡ codes "ok 120\n"
unfolding digits
line_of_many = refl

-- a fact is asked of each fault but that of a write
facts_of_faults : (IfNotWritten {T = ℕ} (Ok 2) ℕ ≡ Unit {0})
    × (IfNotWritten {T = ℕ} (Err (Refused (record { code = NoColon; line = 1 }))) ℕ ≡ ℕ)
    × (IfNotWritten {T = ℕ} (Err Memory) ℕ ≡ ℕ) × (IfNotWritten {T = ℕ} (Err Read) ℕ ≡ ℕ)
    × (IfNotWritten {T = ℕ} (Err Write) ℕ ≡ Unit {0})
facts_of_faults = (refl, refl, refl, refl, refl)

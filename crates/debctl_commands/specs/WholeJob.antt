-- What the job of `check --complete` and `check --least N` answers. The lines and the
-- statuses are this project's own; acceptance and refusals are those of documents of a kind (Debian
-- Policy 5.1 and 5.3 to 5.6).
use Rattle.std.specs.Prelude.{◌≡◌, ℕ, ⊤, List, Option, Some, Result, IfOk, IfErr, codes, refl}
use Rattle.std.specs.Fmt.{digits}
use Rattle.std.specs.Io.KnownBytes.{Appends}
use Rattle.deb_base.specs.Devices.{AppendsFront, Puts, read_failures_after, write_failures_after}
use Rattle.deb_base.specs.declared.doc.Doc.{Doc}
use Rattle.deb_base.specs.declared.fault.Fault.{Fault}
use Rattle.deb_base.specs.declared.fault.Fault.TheVariants.{Write}
use Rattle.deb_control.specs.Calls.{HasParagraphs, IfRefused, IfWriteFailed}
use Rattle.deb_control.specs.Checking.{IsRefusalOfDocument}
use Rattle.deb_control.specs.Documents.{refusal_of}
use Rattle.debctl_commands.specs.DocumentJobs.{ok_line, IfNotWritten}
use Rattle.debctl_commands.specs.Reporting.{Report, by_line, by_status}
use Rattle.debctl_commands.specs.Verdicts.{verdict_line, verdict_of, Finds}
use Rattle.debctl_commands.specs.declared.verdict.Verdict.{Verdict}
use Rattle.debctl_commands.specs.declared.verdict.Verdict.TheVariants.{Whole, NoNewline, TooFew}
use Rattle.debctl_args.specs.declared.jobs.Demands.{Demands}

-- The file is accepted and meets the demands, and a prefix of the line that says so was written,
-- before a write failed.
pub record WritesFrontOfWhole (doc : Doc) (demands : Demands) (text : List ℕ)
    (old new : Option (List ℕ)) : Type 0 where
  pub count : ℕ
  pub paragraphs : HasParagraphs doc text count
  pub whole : verdict_of demands text count ≡ Whole count
  pub written : AppendsFront old new (ok_line count)

-- what was written for an accepted file: the line of one that meets the demands
abbrev pub WritesVerdict : {W : Type 0} → (W → Option (List ℕ)) → W → W → Verdict → Type 0
WritesVerdict held old new (Whole n) = Appends (held old) (held new) (ok_line n)
WritesVerdict held old new NoNewline = new ≡ old
WritesVerdict held old new (TooFew n least) = new ≡ old

-- The answer to the job, and what it wrote: by the reader's text, its count of failed calls before
-- and after, and the writer before and after.
pub record ChecksWhole {W : Type 0} (doc : Doc) (demands : Demands) (left : Option (List ℕ))
    (count count_after : ℕ) (held : W → Option (List ℕ)) (failures : W → ℕ) (old new : W)
    (answer : Result Verdict Fault) : Type 0 where
  pub ok : (text : List ℕ) → left ≡ Some text → IfOk answer (Finds doc demands text)
  pub written : IfOk answer (WritesVerdict held old new)
  pub refused : (text : List ℕ) → left ≡ Some text →
      IfRefused answer (λ refusal. refusal_of doc text ≡ Some refusal)
  pub write : (text : List ℕ) → left ≡ Some text →
      IfWriteFailed answer (WritesFrontOfWhole doc demands text (held old) (held new))
  pub refusal : IfRefused answer IsRefusalOfDocument
  pub unwritten : IfNotWritten answer (new ≡ old)
  pub reads : count_after ≡ read_failures_after count answer
  pub writes : failures new ≡ write_failures_after (failures old) answer

-- how that is written: the line of a file that meets the demands may fail
pub record PutsLine {W : Type 0} (held : W → Option (List ℕ)) (failures : W → ℕ) (old new : W)
    (line : List ℕ) (answer : Result ⊤ Fault) : Type 0 where
  pub written : Puts (held old) (held new) answer line
  pub fault : IfErr answer (λ fault. fault ≡ Write)
  pub counts_failure : failures new ≡ write_failures_after (failures old) answer

abbrev pub PutsVerdict : {W : Type 0} → (W → Option (List ℕ)) → (W → ℕ) → W → W → Verdict
    → Result ⊤ Fault → Type 0
PutsVerdict held failures old new (Whole n) answer =
    PutsLine held failures old new (ok_line n) answer
PutsVerdict held failures old new NoNewline answer = (new ≡ old) × IfErr answer (λ fault. ⊥)
PutsVerdict held failures old new (TooFew n least) answer =
    (new ≡ old) × IfErr answer (λ fault. ⊥)

-- how what is found of an accepted file is reported: nothing of one that meets the demands, and the
-- line of another
abbrev pub verdict_report : Verdict → Report
verdict_report (Whole n) = by_status 0
verdict_report NoNewline = by_line (verdict_line NoNewline)
verdict_report (TooFew n least) = by_line (verdict_line (TooFew n least))

-- nothing is written on standard output of a file that doesn't meet the demands
written_of_verdicts : WritesVerdict Some (codes "a") (codes "aok 2\n") (Whole 2)
    × WritesVerdict Some (codes "a") (codes "a") NoNewline
    × WritesVerdict Some (codes "a") (codes "a") (TooFew 1 2)
unfolding digits
written_of_verdicts = (refl, refl, refl)

-- and nothing on standard error of one that does
reports_of_verdicts : (verdict_report (Whole 2) ≡ by_status 0)
    × (verdict_report NoNewline ≡ by_line (codes "incomplete: no newline at the end\n"))
reports_of_verdicts = (refl, refl)

-- What the job of `same` answers and reports. Its lines are this project's own; acceptance,
-- refusals and what files mean are those of documents of a kind (Debian Policy 5.1 and 5.3 to 5.6).
use Rattle.std.specs.Prelude.{◌≡◌, ◌⊎◌, ℕ, Bool, true, false, if◌then◌else◌, List, [], ◌++◌, Option}
use Rattle.std.specs.Prelude.{Some, Result, Ok, Err, IfOk, IfErr, codes, refl}
use Rattle.std.specs.Fmt.{digits}
use Rattle.std.specs.Io.KnownBytes.{Appends}
use Rattle.deb_base.specs.Devices.{AppendsFront, one_more, read_failures_after, write_failures_after}
use Rattle.deb_base.specs.Faults.{MatchFault}
use Rattle.deb_base.specs.Lines.{fault_line}
use Rattle.deb_base.specs.declared.code.Code.TheVariants.{BadNumber}
use Rattle.deb_base.specs.declared.fault.Fault.{Fault}
use Rattle.deb_base.specs.declared.fault.Fault.TheVariants.{Refused, Memory, Read, Write}
use Rattle.deb_base.specs.declared.doc.Doc.{Doc}
use Rattle.deb_control.specs.Calls.{IfRefused}
use Rattle.deb_control.specs.Checking.{IsRefusalOfDocument}
use Rattle.deb_control.specs.Comparing.{RefusesSecond, AnswersSame}
use Rattle.deb_control.specs.Documents.{refusal_of}
use Rattle.deb_control.specs.Sides.{of_first, of_second}
use Rattle.deb_control.specs.declared.side.Side.{Side}
use Rattle.deb_control.specs.declared.side.Side.TheVariants.{First, Second}
use Rattle.deb_control.specs.declared.side.SideFault.{SideFault}
use Rattle.debctl_commands.specs.JobDevices.{ReaderOfJob, WriterOfJob}
use Rattle.debctl_commands.specs.Reporting.{status_of, ReportsFront, ReportsWhole}

-- ---- lines

-- the line of an answer
abbrev pub same_line : Bool → List ℕ
same_line same = if same then codes "same\n" else codes "different\n"

-- the text before the line of a file's refusal
abbrev pub side_word : Side → List ℕ
side_word First = codes "first: "
side_word Second = codes "second: "

-- the text before the line of a fault: one that is no refusal is reported without its side
abbrev pub word_before : Side → Fault → List ℕ
word_before side (Refused _) = side_word side
word_before side Memory = []
word_before side Read = []
word_before side Write = []

-- the line of a fault with its side
abbrev pub side_line : SideFault → List ℕ
side_line side_fault = word_before side_fault.side side_fault.fault ++ fault_line side_fault.fault

-- ---- the answer

-- A prefix of the line of the answer was written.
pub record WritesFrontOfSame {W : Type 0} (doc : Doc) (one another : ReaderOfJob)
    (out : WriterOfJob W) : Type 0 where
  pub same : Bool
  pub means : (text text_too : List ℕ) → one.text ≡ Some text → another.text ≡ Some text_too →
      AnswersSame doc text text_too same
  pub written : AppendsFront (out.held out.old) (out.held out.new) (same_line same)

-- What is answered of two files, and written: by their readers and the writer. If a write of the
-- answer's line failed, a prefix of it was written.
pub record ComparesFiles {W : Type 0} (doc : Doc) (one another : ReaderOfJob) (out : WriterOfJob W)
    (answer : Result Bool SideFault) : Type 0 where
  pub ok : (text text_too : List ℕ) → one.text ≡ Some text → another.text ≡ Some text_too →
      IfOk answer (AnswersSame doc text text_too)
  pub written : IfOk answer
      (λ same. Appends (out.held out.old) (out.held out.new) (same_line same))
  pub first : (text : List ℕ) → one.text ≡ Some text →
      IfRefused (of_first answer) (λ refusal. refusal_of doc text ≡ Some refusal)
  pub second : (text text_too : List ℕ) → one.text ≡ Some text → another.text ≡ Some text_too →
      IfRefused (of_second answer) (RefusesSecond doc text text_too)
  pub fault : IfErr answer (λ told. MatchFault told.fault
      (λ refusal. IsRefusalOfDocument refusal × (out.new ≡ out.old))
      (out.new ≡ out.old) (out.new ≡ out.old) (WritesFrontOfSame doc one another out))
  pub reads_first : one.failures_after ≡ read_failures_after one.failures (of_first answer)
  pub reads_second : another.failures_after
      ≡ read_failures_after another.failures (of_second answer)
  pub writes : out.failures out.new
      ≡ write_failures_after (out.failures out.old) (of_second answer)

-- how the line of an answer is written
abbrev pub PutsAnswer : {W : Type 0} → WriterOfJob W → Bool → Result Bool SideFault → Type 0
PutsAnswer out same (Ok answer) =
    (answer ≡ same) × Appends (out.held out.old) (out.held out.new) (same_line same)
    × (out.failures out.new ≡ out.failures out.old)
PutsAnswer out same (Err told) =
    (told ≡ record { side = Second; fault = Write })
    × AppendsFront (out.held out.old) (out.held out.new) (same_line same)
    × (out.failures out.new ≡ one_more (out.failures out.old))

-- ---- reporting

-- A fault is reported by its line, and by its status unless a write of the line fails.
abbrev pub ReportsSide : {E : Type 0} → (E → Option (List ℕ)) → (E → ℕ) → E → E → SideFault → ℕ
    → Type 0
ReportsSide held failures old new side_fault status =
    ReportsWhole held failures old new (side_line side_fault) (status_of side_fault.fault) status
    ⊎ ReportsFront held failures old new (side_line side_fault) status

-- files that mean the same, and files that don't
lines_of_answers : (same_line true ≡ codes "same\n") × (same_line false ≡ codes "different\n")
lines_of_answers = (refl, refl)

line_of_refused_first : side_line (record
    { side = First; fault = Refused (record { code = BadNumber; line = 4 }) })
    ≡ codes "first: line 4: 15 BadNumber\n"
unfolding digits
line_of_refused_first = refl

line_of_refused_second : side_line (record
    { side = Second; fault = Refused (record { code = BadNumber; line = 4 }) })
    ≡ codes "second: line 4: 15 BadNumber\n"
unfolding digits
line_of_refused_second = refl

-- other faults have no side
lines_of_faults : (side_line (record { side = Second; fault = Read }) ≡ codes "fault: read\n")
    × (side_line (record { side = First; fault = Memory }) ≡ codes "fault: memory\n")
    × (side_line (record { side = First; fault = Write }) ≡ codes "fault: write\n")
lines_of_faults = (refl, refl, refl)

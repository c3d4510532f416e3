-- From what the comparison of two files answers to what the job answers.
use Rattle.std.proofs.Common.{◌≡◌, ℕ, Bool, List, Some, Ok, Err, sym, ap, subst}
use Rattle.std.specs.Prelude.{Result}
use Rattle.std.specs.Io.KnownBytes.{Appends}
use Rattle.deb_base.specs.Devices.{read_failures_after}
use Rattle.deb_base.specs.Faults.{IsReadersFault}
use Rattle.deb_base.specs.declared.fault.Fault.{Fault}
use Rattle.deb_base.specs.declared.fault.Fault.TheVariants.{Refused, Memory, Read, Write}
use Rattle.deb_base.specs.declared.doc.Doc.{Doc}
use Rattle.deb_control.specs.Calls.{IfRefused}
use Rattle.deb_control.specs.Checking.{IsRefusalOfDocument}
use Rattle.deb_control.specs.Comparing.{AnswersSame, RefusesSecond}
use Rattle.deb_control.specs.Documents.{refusal_of}
use Rattle.deb_control.specs.Sides.{if_first, if_second}
use Rattle.deb_control.specs.declared.side.Side.{Side}
use Rattle.deb_control.specs.declared.side.Side.TheVariants.{First, Second}
use Rattle.deb_control.specs.declared.side.SideFault.{SideFault}
use Rattle.debctl_commands.specs.JobDevices.{ReaderOfJob, WriterOfJob}
use Rattle.debctl_commands.specs.SameJob.{ComparesFiles, PutsAnswer, same_line}

module _ {W : Type 0} (doc : Doc) (one another : ReaderOfJob) (out : WriterOfJob W) where
  -- the files weren't compared, and nothing was written
  pub not_compared : (side : Side) (fault : Fault) → out.new ≡ out.old
      → ((text : List ℕ) → one.text ≡ Some text → IfRefused (if_first side fault) (λ refusal. refusal_of doc text ≡ Some refusal))
      → ((text text_too : List ℕ) → one.text ≡ Some text → another.text ≡ Some text_too → IfRefused (if_second side fault) (RefusesSecond doc text text_too))
      → IsReadersFault fault IsRefusalOfDocument
      → one.failures_after ≡ read_failures_after one.failures (if_first side fault) → another.failures_after ≡ read_failures_after another.failures (if_second side fault)
      → ComparesFiles doc one another out (Err (record { side = side; fault = fault }))
  not_compared First (Refused refusal) same first second is reads reads_too = record { ok = λ _ _ _ _. tt; written = tt; first = first; second = second; fault = (is, same); reads_first = reads; reads_second = reads_too; writes = ap out.failures same }
  not_compared Second (Refused refusal) same first second is reads reads_too = record { ok = λ _ _ _ _. tt; written = tt; first = first; second = second; fault = (is, same); reads_first = reads; reads_second = reads_too; writes = ap out.failures same }
  not_compared First Memory same first second is reads reads_too = record { ok = λ _ _ _ _. tt; written = tt; first = first; second = second; fault = same; reads_first = reads; reads_second = reads_too; writes = ap out.failures same }
  not_compared Second Memory same first second is reads reads_too = record { ok = λ _ _ _ _. tt; written = tt; first = first; second = second; fault = same; reads_first = reads; reads_second = reads_too; writes = ap out.failures same }
  not_compared First Read same first second is reads reads_too = record { ok = λ _ _ _ _. tt; written = tt; first = first; second = second; fault = same; reads_first = reads; reads_second = reads_too; writes = ap out.failures same }
  not_compared Second Read same first second is reads reads_too = record { ok = λ _ _ _ _. tt; written = tt; first = first; second = second; fault = same; reads_first = reads; reads_second = reads_too; writes = ap out.failures same }
  not_compared side Write same first second is reads reads_too = absurd is

  -- they were, and the line was written, or a prefix of it
  pub compared : (same : Bool) (answer : Result Bool SideFault) → PutsAnswer out same answer → ((text text_too : List ℕ) → one.text ≡ Some text → another.text ≡ Some text_too → AnswersSame doc text text_too same)
      → one.failures_after ≡ one.failures → another.failures_after ≡ another.failures → ComparesFiles doc one another out answer
  compared same (Ok answer) (is, written, counted) means reads reads_too = record {
    ok = λ text text_too known knows. subst (AnswersSame doc text text_too) (sym is) (means text text_too known knows);
    written = subst (λ s. Appends (out.held out.old) (out.held out.new) (same_line s)) (sym is) written;
    first = λ _ _. tt;
    second = λ _ _ _ _. tt;
    fault = tt;
    reads_first = reads;
    reads_second = reads_too;
    writes = counted;
  }
  compared same (Err told) (is, front, counted) means reads reads_too = subst (λ t. ComparesFiles doc one another out (Err t)) (sym is) (record {
    ok = λ _ _ _ _. tt;
    written = tt;
    first = λ _ _. tt;
    second = λ _ _ _ _. tt;
    fault = record { same = same; means = means; written = front };
    reads_first = reads;
    reads_second = reads_too;
    writes = counted;
  })

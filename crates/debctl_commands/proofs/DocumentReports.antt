-- From what the calls on a file answer to what the jobs on files answer.
use Rattle.std.proofs.Common.{◌≡◌, ℕ, List, Option, Some, Err, refl}
use Rattle.deb_base.specs.Devices.{read_failures_after}
use Rattle.deb_base.specs.Faults.{IsReadersFault}
use Rattle.deb_base.specs.declared.fault.Fault.{Fault}
use Rattle.deb_base.specs.declared.fault.Fault.TheVariants.{Refused, Memory, Read, Write}
use Rattle.deb_base.specs.declared.doc.Doc.{Doc}
use Rattle.deb_control.specs.Calls.{IfRefused}
use Rattle.deb_control.specs.Checking.{IsRefusalOfDocument}
use Rattle.deb_control.specs.Documents.{refusal_of}
use Rattle.debctl_commands.specs.DocumentJobs.{ChecksFile}

-- a fault of the reading is one of `check`: nothing was written by then
pub not_checked : {T W : Type 0} (doc : Doc) (left : Option (List ℕ)) (count count_after : ℕ) (held : W → Option (List ℕ)) (failures : W → ℕ) (out : W) (fault : Fault)
    → ((text : List ℕ) → left ≡ Some text → IfRefused {T = ℕ} (Err fault) (λ refusal. refusal_of doc text ≡ Some refusal)) → IsReadersFault fault IsRefusalOfDocument
    → count_after ≡ read_failures_after {T = ℕ} count (Err fault) → ChecksFile {T = T} doc left count count_after held failures out out (Err fault)
not_checked doc left count count_after held failures out (Refused refusal) refused is reads =
    record { ok = λ text reported. tt; refused = refused; write = λ text reported. tt; refusal = is; unwritten = refl; reads = reads; writes = refl }
not_checked doc left count count_after held failures out Memory refused is reads =
    record { ok = λ text reported. tt; refused = λ text reported. tt; write = λ text reported. tt; refusal = tt; unwritten = refl; reads = reads; writes = refl }
not_checked doc left count count_after held failures out Read refused is reads =
    record { ok = λ text reported. tt; refused = λ text reported. tt; write = λ text reported. tt; refusal = tt; unwritten = refl; reads = reads; writes = refl }
not_checked doc left count count_after held failures out Write refused is reads = absurd is

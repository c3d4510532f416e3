-- The faults of two files that lie in memory: no read of them fails.
use Rattle.std.proofs.Common.{◌≡◌, ℕ, List, Bool, Some, Ok, Err, arith}
use Rattle.std.specs.Prelude.{IfErr, Result}
use Rattle.deb_base.specs.Devices.{read_failures_after}
use Rattle.deb_base.specs.Faults.{IsReadersFault, MatchFault, RefusedOrMemory}
use Rattle.deb_base.specs.declared.fault.Fault.{Fault}
use Rattle.deb_base.specs.declared.fault.Fault.TheVariants.{Refused, Memory, Read, Write}
use Rattle.deb_base.specs.declared.doc.Doc.{Doc}
use Rattle.deb_control.specs.Calls.{IfRefused}
use Rattle.deb_control.specs.Checking.{IsRefusalOfDocument}
use Rattle.deb_control.specs.Comparing.{RefusesSecond}
use Rattle.deb_control.specs.Documents.{refusal_of}
use Rattle.deb_control.specs.Sides.{if_first, if_second, of_first, of_second}
use Rattle.deb_control.specs.declared.side.Side.{Side}
use Rattle.deb_control.specs.declared.side.Side.TheVariants.{First, Second}
use Rattle.deb_control.specs.declared.side.SideFault.{SideFault}
use Rattle.debctl_ffi.specs.Documents.{IsSideFault, RefusesSide}

by_side : (doc : Doc) (text other : List ℕ) (side : Side) (fault : Fault)
    → IfRefused (if_first side fault) (λ refusal. refusal_of doc text ≡ Some refusal)
    → IfRefused (if_second side fault) (RefusesSecond doc text other)
    → 0 ≡ read_failures_after 0 (if_first side fault) → 0 ≡ read_failures_after 0 (if_second side fault)
    → IsReadersFault fault IsRefusalOfDocument → RefusedOrMemory fault (RefusesSide side doc text other)
by_side doc text other First (Refused refusal) first second reads_first reads_second is = first
by_side doc text other Second (Refused refusal) first second reads_first reads_second is = second
by_side doc text other side Memory first second reads_first reads_second is = tt
by_side doc text other First Read first second reads_first reads_second is = absurd (omega (arith, reads_first))
by_side doc text other Second Read first second reads_first reads_second is = absurd (omega (arith, reads_second))
by_side doc text other side Write first second reads_first reads_second is = absurd is

pub side_fault : (doc : Doc) (text other : List ℕ) (r : Result Bool SideFault)
    → IfRefused (of_first r) (λ refusal. refusal_of doc text ≡ Some refusal)
    → IfRefused (of_second r) (RefusesSecond doc text other)
    → 0 ≡ read_failures_after 0 (of_first r) → 0 ≡ read_failures_after 0 (of_second r)
    → IfErr r (λ found. IsReadersFault found.fault IsRefusalOfDocument) → IfErr r (IsSideFault doc text other)
side_fault doc text other (Ok same) first second reads_first reads_second is = tt
side_fault doc text other (Err found) first second reads_first reads_second is =
    by_side doc text other found.side found.fault first second reads_first reads_second is

-- a refusal is that of the file of its side
pub refusal_of_side : (doc : Doc) (text other : List ℕ) (side : Side) (fault : Fault)
    → IfRefused (if_first side fault) (λ refusal. refusal_of doc text ≡ Some refusal)
    → IfRefused (if_second side fault) (RefusesSecond doc text other)
    → MatchFault fault (RefusesSide side doc text other) (Unit {0}) (Unit {0}) (Unit {0})
refusal_of_side doc text other First (Refused refusal) first second = first
refusal_of_side doc text other Second (Refused refusal) first second = second
refusal_of_side doc text other side Memory first second = tt
refusal_of_side doc text other side Read first second = tt
refusal_of_side doc text other side Write first second = tt

use Rattle.std.proofs.Common.{◌≡◌, Some, subst}
use Rattle.deb_base.specs.Faults.{MatchFault}
use Rattle.deb_control.specs.Documents.{refusal_of}
use Rattle.deb_base.specs.declared.doc.Doc.TheVariants.{Packages}
use Rattle.debctl_ffi.proofs.report.read_more.Goals as goal

pub returns-in-Err-Refused-clause-fault : goal.returns-in-Err-Refused-clause-fault
returns-in-Err-Refused-clause-fault c =
    subst (λ fault. MatchFault fault (λ refusal. refusal_of Packages c.args.text.now ≡ Some refusal) (Unit {0}) (Unit {0}) (Unit {0})) c.in-Err-Refused.field-0-is
    (c.in-Err-Refused.ensures.refused c.args.text.now c.new.ensures.left)

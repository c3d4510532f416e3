use Rattle.std.proofs.Common.{◌≡◌, Some, subst}
use Rattle.deb_base.specs.Faults.{MatchFault}
use Rattle.deb_control.specs.Documents.{refusal_of}
use Rattle.debctl_ffi.proofs.files.check_text.Goals as goal

pub returns-in-Err-Refused-clause-fault : goal.returns-in-Err-Refused-clause-fault
returns-in-Err-Refused-clause-fault c =
    subst (λ fault. MatchFault fault (λ refusal. refusal_of c.args.doc c.args.text.now ≡ Some refusal) (Unit {0}) (Unit {0}) (Unit {0})) c.in-Err-Refused.field-0-is
    (c.in-Err-Refused.ensures.refused c.args.text.now c.new.ensures.left)

use Rattle.std.proofs.Common.{◌≡◌, Some, subst}
use Rattle.deb_base.specs.Faults.{MatchFault}
use Rattle.deb_control.specs.Documents.{refusal_of}
use Rattle.debctl_ffi.specs.Tables.{ShowFields}
use Rattle.debctl_ffi.proofs.read_fields.read_text_fields.Goals as goal

pub returns-in-Err-Refused-clause-fault : goal.returns-in-Err-Refused-clause-fault
returns-in-Err-Refused-clause-fault c =
    subst (λ fault. MatchFault fault (λ refusal. refusal_of c.args.doc c.args.text.now ≡ Some refusal) (Unit {0}) (Unit {0}) (Unit {0})) c.in-Err-Refused.field-0-is
    (c.in-Err-Refused.ensures.refused c.args.text.now c.new.ensures.left)

pub returns-in-Err-Refused-clause-shown_before : goal.returns-in-Err-Refused-clause-shown_before
returns-in-Err-Refused-clause-shown_before c =
    subst (λ fault. MatchFault fault (λ refusal. ShowFields c.args.doc c.args.text.now c.read_fields.new.tables) (Unit {0}) (Unit {0}) (Unit {0})) c.in-Err-Refused.field-0-is
    (c.in-Err-Refused.ensures.shown_before c.args.text.now c.new.ensures.left)

use Rattle.std.proofs.Common.{◌≡◌, Err, Some, subst, sym}
use Rattle.deb_control.specs.Calls.{IfRefused}
use Rattle.deb_control.specs.Documents.{refusal_of}
use Rattle.deb_index.specs.Members.{doc_of}
use Rattle.deb_install.specs.Installing.{asks_by}
use Rattle.deb_install.specs.declared.witnesses.Sought.{Sought}
use Rattle.deb_relation.specs.Environments.{environment_of}
use Rattle.debctl_ffi.proofs.Written.{written_whole}
use Rattle.debctl_ffi.proofs.witness.lines_in.Goals as goal
use Rattle.debctl_ffi.specs.Witnesses.{HasFoundLines}

pub returns-in-Ok-clause-ok : goal.returns-in-Ok-clause-ok
returns-in-Ok-clause-ok c =
    let own = c.in-Ok.ensures.ok c.args.index.now c.new-source.ensures.left in
    let lines = written_whole _ _ _ _ c.new-sink.ensures.held c.into_bytes.ensures own.written in
    subst (HasFoundLines (asks_by c.args.request.now (environment_of c.args.environment.now)) c.args.index.now _)
    (sym lines) (record { found = own.file; count = own.count })

pub returns-in-Err-Refused-clause-fault : goal.returns-in-Err-Refused-clause-fault
returns-in-Err-Refused-clause-fault c =
    subst (λ fault. IfRefused {T = Sought} (Err fault) (λ refusal. refusal_of (doc_of c.args.request.now.members) c.args.index.now ≡ Some refusal))
    c.in-Err-Refused.field-0-is (c.in-Err-Refused.ensures.refused c.args.index.now c.new-source.ensures.left)

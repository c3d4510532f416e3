use Rattle.std.proofs.Common.{◌≡◌, ◌∙◌, Err, Some, ap, subst, sym}
use Rattle.deb_control.specs.Calls.{IfRefused}
use Rattle.deb_control.specs.Documents.{refusal_of}
use Rattle.deb_index.specs.Members.{doc_of}
use Rattle.deb_unmet.specs.Files.{is_nothing}
use Rattle.deb_unmet.specs.declared.asking.Summary.{Summary}
use Rattle.debctl_ffi.proofs.Written.{written_whole}
use Rattle.debctl_ffi.proofs.installable.lines_in.Goals as goal

pub returns-in-Ok-clause-ok : goal.returns-in-Ok-clause-ok
returns-in-Ok-clause-ok c =
    let own = c.in-Ok.ensures.ok c.args.index.now c.new-source.ensures.left in
    let lines = written_whole _ _ _ _ c.new-sink.ensures.held c.into_bytes.ensures own.written in
    record {
      answers = own.file;
      count = own.count;
      lines = lines;
      is_empty = own.is_empty ∙ ap is_nothing (sym lines);
    }

pub returns-in-Err-Refused-clause-fault : goal.returns-in-Err-Refused-clause-fault
returns-in-Err-Refused-clause-fault c =
    subst (λ fault. IfRefused {T = Summary} (Err fault) (λ refusal. refusal_of (doc_of c.args.request.now.members) c.args.index.now ≡ Some refusal))
    c.in-Err-Refused.field-0-is (c.in-Err-Refused.ensures.refused c.args.index.now c.new-source.ensures.left)

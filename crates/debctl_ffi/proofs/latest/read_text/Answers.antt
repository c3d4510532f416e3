use Rattle.std.proofs.Common.{◌≡◌, Some, inl, subst}
use Rattle.deb_base.specs.Faults.{MatchFault}
use Rattle.deb_control.specs.Documents.{refusal_of}
use Rattle.deb_latest.specs.Entries.{doc_of}
use Rattle.deb_latest.specs.Reads.{kind_of}
use Rattle.debctl_ffi.proofs.LatestTexts.{reads_more}
use Rattle.debctl_ffi.proofs.latest.read_text.Goals as goal

pub returns-in-Ok-clause-ok : goal.returns-in-Ok-clause-ok
returns-in-Ok-clause-ok c = λ asked texts has.
    reads_more asked texts c.args.text.now c.args.latest c.in-Ok.more has
    (c.in-Ok.ensures.ok asked has.meaning c.args.text.now has.has c.new.ensures.left)

pub returns-in-Err-Refused-clause-fails : goal.returns-in-Err-Refused-clause-fails
returns-in-Err-Refused-clause-fails c = inl (record {
  refusal = c.in-Err-Refused.refusal;
  refused =
      subst (λ fault. MatchFault fault (λ refusal. refusal_of (doc_of (kind_of c.args.latest)) c.args.text.now ≡ Some refusal) (Unit {0}) (Unit {0}) (Unit {0})) c.in-Err-Refused.field-0-is
      (c.in-Err-Refused.ensures.refused c.args.text.now c.new.ensures.left);
  is = c.some_refused.ensures;
})

use Rattle.deb_diff.specs.Kinds.{doc_of}
use Rattle.debctl_ffi.proofs.SideFaults.{refusal_of_side}
use Rattle.debctl_ffi.proofs.Written.{written_whole}
use Rattle.debctl_ffi.proofs.diff.diff_texts.Goals as goal

pub returns-in-Ok-clause-ok : goal.returns-in-Ok-clause-ok
returns-in-Ok-clause-ok c =
    let found = c.in-Ok.ensures.ok c.args.text.now c.args.other.now c.new-first.ensures.left c.new-second.ensures.left in
    record {
      old_meaning = found.old_meaning;
      new_meaning = found.new_meaning;
      accepted = found.accepted;
      other_accepted = found.other_accepted;
      is = written_whole _ _ _ _ c.new-sink.ensures.held c.into_bytes.ensures found.written;
      no_line = found.no_line;
    }

pub returns-in-Err-clause-refused : goal.returns-in-Err-clause-refused
returns-in-Err-clause-refused c =
    refusal_of_side (doc_of c.args.of) c.args.text.now c.args.other.now c.in-Err.failed.side c.in-Err.failed.fault
    (c.in-Err.ensures.first c.args.text.now c.new-first.ensures.left)
    (c.in-Err.ensures.second c.args.text.now c.args.other.now c.new-first.ensures.left c.new-second.ensures.left)

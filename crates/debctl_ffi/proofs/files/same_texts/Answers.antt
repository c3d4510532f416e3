use Rattle.debctl_ffi.proofs.SideFaults.{side_fault}
use Rattle.debctl_ffi.proofs.files.same_texts.Goals as goal

pub returns-clause-fault : goal.returns-clause-fault
returns-clause-fault c =
    side_fault c.args.doc c.args.text.now c.args.other.now c.same.result
    (c.same.ensures.first c.args.text.now c.new-first.ensures.left)
    (c.same.ensures.second c.args.text.now c.args.other.now c.new-first.ensures.left c.new-second.ensures.left)
    c.same.ensures.counts_first_failure c.same.ensures.counts_second_failure c.same.ensures.fault

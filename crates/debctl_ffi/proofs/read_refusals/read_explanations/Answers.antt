use Rattle.std.proofs.Common.{refl, ◌∙◌}
use Rattle.debctl_ffi.proofs.RefusalsSoFar.{all_blocks, no_lines, one_block}
use Rattle.debctl_ffi.proofs.read_refusals.read_explanations.Goals as goal

pub loop-init : goal.loop-init
loop-init g c = record {
  sound = c.new-refusals.ensures.sound;
  reads = refl;
  text = λ text left. no_lines _ text _ _ _ left c.new-lines.ensures.items (c.new-refusals.ensures.starts text);
}

pub returns-in_default-clause-ok : goal.returns-in_default-clause-ok
returns-in_default-clause-ok g c = λ text left.
    let has = c.loop.invariant.text text left in
    let gives = rw c.in_default.is at (c.in_ok-refusal.ensures.gives c.args.doc text has.done has.given) in
    let total = rw (c.deref.ensures.value, c.in_ok-total_line.ensures, c.summary-summary.ensures) at c.in_ok-extend_from_slice.ensures.items in
    rw (c.answer_of.ensures, c.summary-summary.ensures) (all_blocks _ text _ _ _ _ _ _ _ has gives total)

pub loop-preserved : goal.loop-preserved
loop-preserved g c = record {
  sound = c.in_ok-refusal.ensures.sound;
  reads = c.in_ok-refusal.ensures.counts_read_failure c.loop.invariant.sound ∙ c.loop.invariant.reads;
  text = λ text left.
      let has = c.loop.invariant.text text left in
      let gives = rw c.in-Some.is at (c.in_ok-refusal.ensures.gives c.args.doc text has.done has.given) in
      rw c.or-first.ensures (one_block _ text _ _ _ _ _ _ _ _ has gives (c.in_ok-push_block.ensures c.args.doc text _ has.done gives.seen gives.given));
}

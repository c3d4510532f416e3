use Rattle.std.proofs.Common.{[]}
use Rattle.debctl_ffi.proofs.FirstTexts.{all_texts, first_texts}
use Rattle.debctl_ffi.proofs.SelectTexts.{reads_one_more, stops_at_text}
use Rattle.debctl_ffi.proofs.select.read_conditions.Goals as goal

pub loop-place-init : goal.loop-place-init
loop-place-init c = record { conditions = []; spelled = tt; has = c.new-selection.ensures }

pub returns-in-Err-clause-fails : goal.returns-in-Err-clause-fails
returns-in-Err-clause-fails c =
    stops_at_text c.args.kind c.args.negated c.args.texts.now c.loop-place.place _ c.loop-place.selection _ c.loop-place-test.true c.loop-place.invariant
    c.in-Err.ensures.fails

pub loop-place-preserved : goal.loop-place-preserved
loop-place-preserved c =
    reads_one_more c.args.kind c.args.negated c.args.texts.now c.loop-place.place _ _ c.loop-place-test.true
    (c.in-Ok.ensures.ok c.args.negated (first_texts c.loop-place.place c.args.texts.now) c.loop-place.invariant)

pub returns-clause-ok : goal.returns-clause-ok
returns-clause-ok c = rw (all_texts c.args.texts.now c.loop-place.place c.loop-place-test.false) at c.loop-place.invariant

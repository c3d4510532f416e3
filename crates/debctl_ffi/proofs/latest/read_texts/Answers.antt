use Rattle.std.proofs.Common.{refl}
use Rattle.deb_latest.specs.Requests.{asked_of}
use Rattle.debctl_ffi.proofs.FirstTexts.{all_texts, first_texts}
use Rattle.debctl_ffi.proofs.LatestTexts.{read_more_files, stops_at_one}
use Rattle.debctl_ffi.proofs.latest.read_texts.Goals as goal

pub loop-place-init : goal.loop-place-init
loop-place-init c = record { meaning = _; means = refl; has = c.in-Ok.ensures.read }

pub returns-in-Err-read_text-clause-fails : goal.returns-in-Err-read_text-clause-fails
returns-in-Err-read_text-clause-fails c =
    stops_at_one (asked_of c.args.request.now) c.args.texts.now c.loop-place.place _ c.loop-place.latest _ c.loop-place-test.true c.loop-place.invariant
    c.in-Err-read_text.ensures.fails

pub loop-place-preserved : goal.loop-place-preserved
loop-place-preserved c =
    read_more_files (asked_of c.args.request.now) c.args.texts.now c.loop-place.place _ _ c.loop-place-test.true
    (c.in-Ok-read_text.ensures.ok (asked_of c.args.request.now) (first_texts c.loop-place.place c.args.texts.now) c.loop-place.invariant)

pub returns-clause-ok : goal.returns-clause-ok
returns-clause-ok c = rw (all_texts c.args.texts.now c.loop-place.place c.loop-place-test.false) at c.loop-place.invariant

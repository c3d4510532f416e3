use Rattle.debctl_ffi.proofs.FirstTexts.{all_texts}
use Rattle.debctl_ffi.proofs.LatestTexts.{written_more}
use Rattle.deb_latest.proofs.FilesWritten.{no_file_is_written}
use Rattle.debctl_ffi.proofs.latest.write_files.Goals as goal

pub loop-place-init : goal.loop-place-init
loop-place-init g c = λ numbers count has. no_file_is_written numbers count _ _ has

pub loop-place-preserved : goal.loop-place-preserved
loop-place-preserved g c = λ numbers count has.
    let before = c.loop-place.invariant numbers count has in
    written_more numbers count c.args.texts.now c.loop-place.place _ _ _ _ _ _ c.loop-place-test.true before
    (c.in_ok-write.ensures.ok numbers count _ _ before.has c.new.ensures.left)

pub returns : goal.returns
returns g c = λ numbers count has.
    rw (all_texts c.args.texts.now c.loop-place.place c.loop-place-test.false) at (c.loop-place.invariant numbers count has)

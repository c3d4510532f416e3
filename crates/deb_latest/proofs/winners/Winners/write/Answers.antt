use Rattle.std.proofs.Common.{refl, ap, ◌∙◌}
use Rattle.std.proofs.lemmas.Result.{err_from_is_err_and}
use Rattle.deb_syntax.specs.Paragraphs.{judged_last}
use Rattle.deb_syntax.specs.Passing.{Passes}
use Rattle.deb_syntax.proofs.Callers.{goes-from_passes}
use Rattle.deb_control.proofs.CheckedSoFar.{cut_off}
use Rattle.deb_latest.proofs.PassedTexts.{all_passed, counted_after, cut_then, failed_then, lines_shown, none_passed, none_shown, one_answered, one_passed, sound_after, unfailed, writes_file, writes_read, writes_refused}
use Rattle.deb_latest.proofs.winners.Winners.write.Goals as goal

pub loop-init : goal.loop-init
loop-init g c = record {
  sound = ap (λ s. s.fault) c.new-paragraphs.ensures.state;
  passed = λ text told. none_passed text _ _ _ _ c.new-paragraphs.ensures.fits told;
  reads = refl;
  writes = refl;
}

pub returns-in_err-pass-clause-refused : goal.returns-in_err-pass-clause-refused
returns-in_err-pass-clause-refused g c = λ numbers count before text has told.
    let p = err_from_is_err_and c.from_residual.result c.from_residual.ensures.1 in
    let so_far = c.loop.invariant.passed text told in
    let goes = goes-from_passes Passes _ _ _ c.loop.invariant.sound c.in_err-pass.ensures.passes in
    rw (p.1, p.2) (writes_refused so_far (Unit {0}) c.in_err-pass.field-0.0 (goes.answers text so_far.passed so_far.fits) numbers count before has)

pub returns-in_err-pass-clause-cut_off : goal.returns-in_err-pass-clause-cut_off
returns-in_err-pass-clause-cut_off g c = λ numbers count before text has told.
    let p = err_from_is_err_and c.from_residual.result c.from_residual.ensures.1 in
    rw (p.1, p.2) (cut_off (Unit {0}) c.in_err-pass.field-0.0 _ (writes_read (c.loop.invariant.passed text told) numbers count before has))

pub returns-in_err-pass-clause-reads_at_most : goal.returns-in_err-pass-clause-reads_at_most
returns-in_err-pass-clause-reads_at_most g c = λ text told.
    let so_far = c.loop.invariant.passed text told in
    (goes-from_passes Passes _ _ _ c.loop.invariant.sound c.in_err-pass.ensures.passes).taken text so_far.passed so_far.fits

pub returns-in_default-clause-ok : goal.returns-in_default-clause-ok
returns-in_default-clause-ok g c = λ numbers count before text has told.
    let so_far = c.loop.invariant.passed text told in
    let goes = goes-from_passes Passes _ _ _ c.loop.invariant.sound c.in_ok-pass.ensures.passes in
    let none = none_shown _ (rw c.in_default.is at c.text.ensures) in
    writes_file so_far (all_passed text so_far.passed c.in_ok-pass.field-0 _ _ _ (goes.answers text so_far.passed so_far.fits) none) numbers count before has

pub returns-in_default-clause-reads_at_most : goal.returns-in_default-clause-reads_at_most
returns-in_default-clause-reads_at_most g c = λ text told.
    let so_far = c.loop.invariant.passed text told in
    (goes-from_passes Passes _ _ _ c.loop.invariant.sound c.in_ok-pass.ensures.passes).taken text so_far.passed so_far.fits

pub returns-in_err-write_next-clause-cut_off : goal.returns-in_err-write_next-clause-cut_off
returns-in_err-write_next-clause-cut_off g c = λ numbers count before text has told.
    let e = err_from_is_err_and c.from_residual-in_err-write_next.result c.from_residual-in_err-write_next.ensures.1 in
    let so_far = c.loop.invariant.passed text told in
    let p = lines_shown _ _ (rw c.in-Some.is at c.text.ensures) in
    let was = so_far.wrote numbers count before has in
    rw (e.1, e.2) (cut_then so_far numbers count before has _ _ p.0 (Unit {0}) c.in_err-write_next.field-0.0 (c.in_err-write_next.ensures.puts numbers count _ p.0 was.0 p.2))

pub returns-in_err-write_next-clause-write : goal.returns-in_err-write_next-clause-write
returns-in_err-write_next-clause-write g c = λ numbers count before text has told.
    let e = err_from_is_err_and c.from_residual-in_err-write_next.result c.from_residual-in_err-write_next.ensures.1 in
    let so_far = c.loop.invariant.passed text told in
    let p = lines_shown _ _ (rw c.in-Some.is at c.text.ensures) in
    let was = so_far.wrote numbers count before has in
    let goes = goes-from_passes Passes _ _ _ c.loop.invariant.sound c.in_ok-pass.ensures.passes in
    let passes = one_answered text so_far.passed c.in_ok-pass.field-0 _ _ _ (unfailed _ c.loop.invariant.sound c.in_ok-pass.ensures.found) p.0 p.1 (goes.answers text so_far.passed so_far.fits) in
    rw (e.1, e.2) (failed_then so_far numbers count before has _ _ p.0 (Unit {0}) c.in_err-write_next.field-0.0 _ _ passes (c.in_err-write_next.ensures.puts numbers count _ p.0 was.0 p.2))

pub returns-in_err-write_next-clause-reads_at_most : goal.returns-in_err-write_next-clause-reads_at_most
returns-in_err-write_next-clause-reads_at_most g c = λ text told.
    let so_far = c.loop.invariant.passed text told in
    (goes-from_passes Passes _ _ _ c.loop.invariant.sound c.in_ok-pass.ensures.passes).taken text so_far.passed so_far.fits

pub loop-preserved : goal.loop-preserved
loop-preserved g c =
    let goes = goes-from_passes Passes _ _ _ c.loop.invariant.sound c.in_ok-pass.ensures.passes in
    let p = lines_shown _ _ (rw c.in-Some.is at c.text.ensures) in
    record {
      sound = sound_after c.in_ok-pass.field-0 (judged_last c.pass.new.self) _ _ c.loop.invariant.sound c.in_ok-pass.ensures.passes;
      passed = λ text told.
          let so_far = c.loop.invariant.passed text told in
          let passes = one_answered text so_far.passed c.in_ok-pass.field-0 _ _ _ (unfailed _ c.loop.invariant.sound c.in_ok-pass.ensures.found) p.0 p.1 (goes.answers text so_far.passed so_far.fits) in
          one_passed so_far _ _ _ _ p.0 passes (goes.taken text so_far.passed so_far.fits) (λ numbers count before has. c.in_ok-write_next.ensures.puts numbers count before p.0 has p.2);
      reads = counted_after c.in_ok-pass.field-0 (judged_last c.pass.new.self) _ _ goes.counted ∙ c.loop.invariant.reads;
      writes = c.in_ok-write_next.ensures.counts_failure ∙ c.loop.invariant.writes;
    }

pub returns-clause-cut_off : goal.returns-clause-cut_off
returns-clause-cut_off g c = λ numbers count before text has told. writes_read (c.loop.invariant.passed text told) numbers count before has

pub returns-clause-reads_at_most : goal.returns-clause-reads_at_most
returns-clause-reads_at_most g c = λ text told. (c.loop.invariant.passed text told).taken

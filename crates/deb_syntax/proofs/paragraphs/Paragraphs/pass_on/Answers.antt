use Rattle.deb_syntax.proofs.Common.{◌+◌, Err, refl, sym, ap, ◌∙◌, read_failures_after, cursor_state, state_of}
use Rattle.deb_syntax.specs.Paragraphs.{judged_last}
use Rattle.deb_syntax.proofs.Advancing.{takes_text}
use Rattle.deb_syntax.proofs.CursorLemmas.{cursor_small}
use Rattle.deb_syntax.proofs.Faults.{readers_fault}
use Rattle.deb_syntax.proofs.Finding.{dropped_answer}
use Rattle.deb_syntax.proofs.JudgedLines.{is_length_refusal}
use Rattle.deb_syntax.proofs.PassingOn.{fault_behind, if_last, some_goes_on, some_passes}
use Rattle.deb_syntax.proofs.paragraphs.Paragraphs.pass_on.Goals as goal

pub returns-in-Ok-NoMore-clause-passes : goal.returns-in-Ok-NoMore-clause-passes
returns-in-Ok-NoMore-clause-passes g c = record {
  answers = λ text passed fits. rw c.in-Ok-NoMore.field-0-is at (c.in-Ok-NoMore.ensures.first text passed fits);
  taken = λ text passed fits. takes_text text passed _ _ _ fits c.in-Ok-NoMore.ensures.reads_at_most;
  counted = c.in-Ok-NoMore.ensures.fault_iff_device_failed;
  fault = tt;
  current = c.in-Ok-NoMore.ensures.none;
  finished = rw c.in-Ok-NoMore.field-0-is at c.in-Ok-NoMore.ensures.shows;
  ended = λ _. refl;
  no_overlong = tt;
}

pub returns-in-Ok-TooLong-clause-passes : goal.returns-in-Ok-TooLong-clause-passes
returns-in-Ok-TooLong-clause-passes g c =
    let new = c.find_first.new.self in
    let shows = rw c.in-Ok-TooLong.field-0-is at c.in-Ok-TooLong.ensures.shows in
    record {
      answers = λ text passed fits. dropped_answer text passed (cursor_state new.cursor) new.overlong_len new.finished _ new.fault _ _ (rw c.in-Ok-TooLong.field-0-is at (c.in-Ok-TooLong.ensures.first text passed fits)) shows.0 new.hides (cursor_small new.cursor) (ap (λ n. n + 1) c.lines.ensures);
      taken = λ text passed fits. takes_text text passed _ _ _ fits c.in-Ok-TooLong.ensures.reads_at_most;
      counted = c.in-Ok-TooLong.ensures.fault_iff_device_failed;
      fault = is_length_refusal c.lines.result;
      current = c.in-Ok-TooLong.ensures.none;
      finished = shows.1;
      ended = λ finished. let e = rw c.in-Ok-TooLong.field-0-is at (c.in-Ok-TooLong.ensures.ended finished) in absurd cc;
      no_overlong = tt;
    }

pub returns-in-Ok-clause-passes : goal.returns-in-Ok-clause-passes
returns-in-Ok-clause-passes g c =
    let new = c.pass_end.new.self in
    record {
      answers = λ text passed fits.
          let b = rw c.in-Ok-Buffered.field-0-is at (c.in-Ok-Buffered.ensures.first text passed fits) in
          some_passes text passed b.passed_now (judged_last new) (state_of new) _ b.passes c.in-Ok.ensures.found (c.in-Ok.ensures.passes text b.passed_now b.again);
      taken = λ text passed fits. let b = rw c.in-Ok-Buffered.field-0-is at (c.in-Ok-Buffered.ensures.first text passed fits) in takes_text text b.passed_now _ _ _ b.again c.in-Ok.ensures.reads_at_most;
      counted = c.in-Ok.ensures.fault_iff_device_failed ∙ c.in-Ok-Buffered.ensures.fault_iff_device_failed;
      fault = tt;
      current = rw c.in-Ok.ensures.none refl;
      finished = c.in-Ok.ensures.unfinished ∙ sym (some_goes_on (judged_last new) c.in-Ok.ensures.found);
      ended = λ finished. let e = rw c.in-Ok-Buffered.field-0-is at (c.in-Ok-Buffered.ensures.ended finished) in absurd cc;
      no_overlong = if_last (judged_last new) _ c.in-Ok.ensures.no_overlong;
    }

pub returns-in-Err-pass_end-clause-passes : goal.returns-in-Err-pass_end-clause-passes
returns-in-Err-pass_end-clause-passes g c = record {
  answers = λ text passed fits.
      let b = rw c.in-Ok-Buffered.field-0-is at (c.in-Ok-Buffered.ensures.first text passed fits) in
      fault_behind text passed b.passed_now c.in-Err-pass_end.fault b.passes (c.in-Err-pass_end.ensures.refused text b.passed_now b.again);
  taken = λ text passed fits. let b = rw c.in-Ok-Buffered.field-0-is at (c.in-Ok-Buffered.ensures.first text passed fits) in takes_text text b.passed_now _ _ _ b.again c.in-Err-pass_end.ensures.reads_at_most;
  counted = c.in-Err-pass_end.ensures.fault_iff_device_failed ∙ ap (λ n. read_failures_after {T = Unit {0}} n (Err c.in-Err-pass_end.fault)) c.in-Ok-Buffered.ensures.fault_iff_device_failed;
  fault = c.in-Err-pass_end.ensures.fault;
  current = rw c.in-Err-pass_end.ensures.none refl;
  finished = c.in-Err-pass_end.ensures.unfinished;
  ended = λ finished. let e = rw c.in-Ok-Buffered.field-0-is at (c.in-Ok-Buffered.ensures.ended finished) in absurd cc;
  no_overlong = tt;
}

pub returns-in-Err-clause-passes : goal.returns-in-Err-clause-passes
returns-in-Err-clause-passes g c = record {
  answers = λ text passed fits. readers_fault c.in-Err.fault (λ refusal is. is.0) (c.in-Err.ensures.first text passed fits);
  taken = λ text passed fits. takes_text text passed _ _ _ fits c.in-Err.ensures.reads_at_most;
  counted = c.in-Err.ensures.fault_iff_device_failed;
  fault = c.in-Err.ensures.fault;
  current = c.in-Err.ensures.none;
  finished = c.in-Err.ensures.shows;
  ended = λ finished. let e = c.in-Err.ensures.ended finished in absurd cc;
  no_overlong = tt;
}

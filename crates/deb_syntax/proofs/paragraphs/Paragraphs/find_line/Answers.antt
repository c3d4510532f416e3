use Rattle.deb_syntax.proofs.Common.{◌+◌, ap, refl, arith}
use Rattle.deb_syntax.proofs.Advancing.{begins_line, takes_text}
use Rattle.deb_syntax.proofs.Faults.{readers_fault}
use Rattle.deb_syntax.proofs.JudgedLines.{length_is_text}
use Rattle.deb_syntax.proofs.paragraphs.Paragraphs.find_line.Goals as goal

pub returns-in-Ok-NoMore-clause-begins : goal.returns-in-Ok-NoMore-clause-begins
returns-in-Ok-NoMore-clause-begins g c = record {
  answers = λ text passed fits. rw c.in-Ok-NoMore.field-0-is at (c.in-Ok-NoMore.ensures.first text passed fits);
  taken = λ text passed fits. takes_text text passed _ _ _ fits c.in-Ok-NoMore.ensures.reads_at_most;
  counted = c.in-Ok-NoMore.ensures.fault_iff_device_failed;
  fault = tt;
  current = c.in-Ok-NoMore.ensures.none;
  finished = rw c.in-Ok-NoMore.field-0-is at c.in-Ok-NoMore.ensures.shows;
  ended = λ _. refl;
  line = tt;
}

pub returns-in-Ok-Buffered-clause-begins : goal.returns-in-Ok-Buffered-clause-begins
returns-in-Ok-Buffered-clause-begins g c = record {
  answers = λ text passed fits. begins_line text passed _ _ _ (ap (λ n. n + 1) c.lines.ensures) c.find_first.new.self.near (rw c.in-Ok-Buffered.field-0-is at (c.in-Ok-Buffered.ensures.first text passed fits));
  taken = λ text passed fits. takes_text text passed _ _ _ fits c.in-Ok-Buffered.ensures.reads_at_most;
  counted = c.in-Ok-Buffered.ensures.fault_iff_device_failed;
  fault = tt;
  current = c.in-Ok-Buffered.ensures.none;
  finished = (rw c.in-Ok-Buffered.field-0-is at c.in-Ok-Buffered.ensures.shows).1;
  ended = λ finished. let e = rw c.in-Ok-Buffered.field-0-is at (c.in-Ok-Buffered.ensures.ended finished) in absurd cc;
  line = omega arith;
}

pub returns-in-Ok-TooLong-clause-begins : goal.returns-in-Ok-TooLong-clause-begins
returns-in-Ok-TooLong-clause-begins g c = record {
  answers = λ text passed fits. begins_line text passed _ _ _ (ap (λ n. n + 1) c.lines-in-Ok-TooLong.ensures) c.find_first.new.self.near (rw c.in-Ok-TooLong.field-0-is at (c.in-Ok-TooLong.ensures.first text passed fits));
  taken = λ text passed fits. takes_text text passed _ _ _ fits c.in-Ok-TooLong.ensures.reads_at_most;
  counted = c.in-Ok-TooLong.ensures.fault_iff_device_failed;
  fault = tt;
  current = c.in-Ok-TooLong.ensures.none;
  finished = (rw c.in-Ok-TooLong.field-0-is at c.in-Ok-TooLong.ensures.shows).1;
  ended = λ finished. let e = rw c.in-Ok-TooLong.field-0-is at (c.in-Ok-TooLong.ensures.ended finished) in absurd cc;
  line = omega arith;
}

pub returns-in-Err-clause-begins : goal.returns-in-Err-clause-begins
returns-in-Err-clause-begins g c = record {
  answers = λ text passed fits. readers_fault c.in-Err.fault (λ refusal is. is.1) (c.in-Err.ensures.first text passed fits);
  taken = λ text passed fits. takes_text text passed _ _ _ fits c.in-Err.ensures.reads_at_most;
  counted = c.in-Err.ensures.fault_iff_device_failed;
  fault = length_is_text c.in-Err.fault c.in-Err.ensures.fault;
  current = c.in-Err.ensures.none;
  finished = c.in-Err.ensures.shows;
  ended = λ finished. let e = c.in-Err.ensures.ended finished in absurd cc;
  line = tt;
}

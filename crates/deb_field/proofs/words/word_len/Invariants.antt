use Rattle.std.proofs.Common.{◌≡◌, ◌≤◌, ◌+◌, length}
use Rattle.std.specs.List.{prefix_len}
use Rattle.deb_field.specs.WordCuts.{is_other}
use Rattle.deb_field.proofs.words.word_len.Given as goal

-- the bytes before the rest are all in the run
abbrev pub invariant-loop-rest : goal.invariant-loop-rest
invariant-loop-rest l = record {
  run : prefix_len is_other l.text + length l.rest ≡ length l.text + prefix_len is_other l.rest;
  within : length l.rest ≤ length l.text;
}

abbrev pub decreases-loop-rest : goal.decreases-loop-rest
decreases-loop-rest l = length l.rest

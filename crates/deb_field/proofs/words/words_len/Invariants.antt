use Rattle.std.proofs.Common.{◌≡◌, ◌+◌, length}
use Rattle.deb_field.specs.Words.{words_of, words_text}
use Rattle.deb_field.specs.WordTexts.{more_text}
use Rattle.deb_field.proofs.words.words_len.Given as goal

abbrev pub invariant-loop-word : goal.invariant-loop-word
invariant-loop-word l = record {
  can : (goal.iterator-loop-word).can_next l.word-iterator;
  finite : (goal.iterator-loop-word).is_finite l.word-iterator;
  value : l.len + length (more_text (words_of l.word-iterator.rest.now)) ≡ length (words_text (words_of l.fn.text));
}

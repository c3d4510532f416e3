use Rattle.std.proofs.Common.{◌≡◌, ◌++◌}
use Rattle.deb_version.specs.Canonical.{Extends}
use Rattle.deb_field.specs.Words.{words_of, words_text}
use Rattle.deb_field.specs.WordTexts.{more_text}
use Rattle.deb_field.proofs.words.append_words.Given as goal

abbrev pub invariant-loop-word : goal.invariant-loop-word
invariant-loop-word l = record {
  can : (goal.iterator-loop-word).can_next l.word-iterator;
  finite : (goal.iterator-loop-word).is_finite l.word-iterator;
  written : l.out.items ++ more_text (words_of l.word-iterator.rest.now) ≡ l.fn.out.items ++ words_text (words_of l.fn.text);
  begun : Extends l.fn.out.items l.out.items;
}

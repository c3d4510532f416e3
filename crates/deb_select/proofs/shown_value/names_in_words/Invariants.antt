use Rattle.std.proofs.Common.{◌≡◌, ◌++◌, map}
use Rattle.std.specs.List.{flat_map}
use Rattle.deb_field.specs.Shown.{folded_words, words_left}
use Rattle.deb_select.specs.Conditions.{comma_pieces}
use Rattle.deb_select.proofs.shown_value.names_in_words.Given as goal

abbrev pub invariant-loop-word : goal.invariant-loop-word
invariant-loop-word l = record {
  can : (goal.iterator-loop-word).can_next l.word-iterator;
  finite : (goal.iterator-loop-word).is_finite l.word-iterator;
  names : map (λ name. name.now) l.names.items ++ flat_map comma_pieces (words_left l.word-iterator) ≡ flat_map comma_pieces (folded_words l.folded);
}

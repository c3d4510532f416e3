-- Paragraphs are sorted by what decides on their ranks.
use Rattle.std.proofs.Common.{map, subst, rules}
use Rattle.std.specs.List.Sorted.{IsPermutation}
use Rattle.std.proofs.lemmas.List.Sorted.{IsPermutation-map, answers_always}
use Rattle.deb_diff.specs.Places.{comes_first, placing_of_ranked}
use Rattle.deb_diff.proofs.Placed.{comes_first_is_weak}
use Rattle.deb_diff.proofs.ranks.sort_ranked.Goals as goal

pub returns-clause-permutes : goal.returns-clause-permutes
returns-clause-permutes c =
    subst (λ l. IsPermutation l (map placing_of_ranked c.sort_by.new.self.items)) c.in_ok-entries.ensures
    (IsPermutation-map placing_of_ranked c.in_ok-entries.entries.items c.sort_by.new.self.items c.sort_by.ensures.permutation)

pub returns-clause-sorted : goal.returns-clause-sorted
returns-clause-sorted c = c.in_ok-sort_by.ensures.sorted comes_first comes_first_is_weak (answers_always _ _ _ (λ f a r g h. search rules))

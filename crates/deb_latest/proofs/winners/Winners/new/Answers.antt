use Rattle.std.proofs.Common.{eqb, refl, sym}
use Rattle.std.proofs.lemmas.List.Sorted.{list_any-IsPermutation}
use Rattle.deb_latest.proofs.winners.Winners.new.Goals as goal

pub returns : goal.returns
returns c = record {
  sorted = c.sort_unstable.ensures.sorted;
  same = λ k. sym (list_any-IsPermutation (eqb k) _ _ c.sort_unstable.ensures.permutation);
  counted = refl;
  passed = refl;
  begun = refl;
}

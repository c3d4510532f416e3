use Rattle.std.proofs.Common.{rules}
use Rattle.std.proofs.lemmas.Cmp.{nat_list_cmp_total}
use Rattle.std.proofs.lemmas.Fn.{dedup_same}
use Rattle.std.proofs.lemmas.List.Sorted.{ranks_by, answers_always}
use Rattle.deb_relation.specs.Formulas.{profiles_of}
use Rattle.deb_relation.specs.Texts.{restrictions_text}
use Rattle.deb_relation.proofs.Sorting.{is_before, is_same, map-sorted}
use Rattle.deb_relation.proofs.formula.sort_lists.Goals as goal

pub returns : goal.returns
returns c =
    map-sorted profiles_of restrictions_text c.args.lists.now.items c.sort_by.new.self.items c.dedup_by.new.self.items
    (c.in_ok-sort_by.ensures.sorted (is_before (λ x. restrictions_text (profiles_of x))) (ranks_by nat_list_cmp_total (λ x. restrictions_text (profiles_of x))) (answers_always _ _ _ (λ f a r g h. search rules)))
    (c.in_ok-sort_by.ensures.stable (is_before (λ x. restrictions_text (profiles_of x))) (ranks_by nat_list_cmp_total (λ x. restrictions_text (profiles_of x))) (answers_always _ _ _ (λ f a r g h. search rules)))
    (dedup_same _ (is_same (λ x. restrictions_text (profiles_of x))) _ (λ x y b f' x' y' k. search rules) _ _ c.dedup_by.ensures.filtered)

-- Runs are sorted by their versions.
use Rattle.std.proofs.Common.{rules, true, false}
use Rattle.std.proofs.lemmas.List.Sorted.{answers_always}
use Rattle.std.proofs.lemmas.Result.{on_ok_weaker}
use Rattle.deb_sort.proofs.Meanings.{by_version, by_version_is_weak, sorts}
use Rattle.deb_sort.proofs.sorting.sort_runs.Goals as goal

pub returns-then-reverse : goal.returns-then-reverse
returns-then-reverse c =
    rw c.if-reverse.true
    (on_ok_weaker c.sort_by.result (λ sorted. sorts true c.args.runs.now.items c.sort_by.new.self.items c.sort_by.ensures.permutation
    (sorted (by_version true) (by_version_is_weak true) (answers_always _ _ _ (λ f a r g h. search rules)))
    (c.sort_by.ensures.stable (by_version true) (by_version_is_weak true) (answers_always _ _ _ (λ f a r g h. search rules)))) c.sort_by.ensures.sorted)

pub returns-else-reverse : goal.returns-else-reverse
returns-else-reverse c =
    let e = c.sort_by-else-reverse.ensures in
    rw c.if-reverse.false
    (on_ok_weaker c.sort_by-else-reverse.result (λ sorted. sorts false c.args.runs.now.items c.sort_by-else-reverse.new.self.items e.permutation
    (sorted (by_version false) (by_version_is_weak false) (answers_always _ _ _ (λ f a r g h. search rules)))
    (e.stable (by_version false) (by_version_is_weak false) (answers_always _ _ _ (λ f a r g h. search rules)))) e.sorted)

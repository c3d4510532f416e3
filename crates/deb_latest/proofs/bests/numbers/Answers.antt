-- The sort moves the numbers, and `dedup` keeps one of each.
use Rattle.std.proofs.Common.{◌≡◌, map, rules, eqb, ap, ◌∙◌}
use Rattle.std.specs.List.{list_any}
use Rattle.std.proofs.lemmas.List.Filters.{dedup_is}
use Rattle.deb_latest.specs.Winning.{winners, wins}
use Rattle.deb_latest.proofs.Ascending.{merged, numbers-ascend}
use Rattle.deb_latest.proofs.Lookups.{number_in, same-numbers}
use Rattle.deb_latest.proofs.bests.numbers.Goals as goal

pub returns : goal.returns
returns c = λ limit entries numbered are.
    let joined = c.in_ok-numbers.numbers.items in
    let is : joined ≡ map number_in c.args.bests.now.entries = search rules in
    dedup_is _ _ _ c.dedup.ensures.filtered
    ∙ merged joined c.sort_unstable.new.self.items (winners limit entries) c.sort_unstable.ensures.permutation c.sort_unstable.ensures.sorted (numbers-ascend 0 (wins limit entries) entries numbered)
    (λ k. ap (list_any (eqb k)) is ∙ same-numbers limit entries numbered c.args.bests.now are c.iter.ensures.unique k)

-- Those that meet the bound lie between the two places.
use Rattle.std.proofs.Common.{◌≡◌, Some, of_calls, option_map, rules, sym, ap, subst, take, ◌∙◌}
use Rattle.std.specs.List.{filter}
use Rattle.std.specs.List.Sorted.{IsPartitionedBy}
use Rattle.std.specs.Ordering.{is_eq, is_le, is_lt}
use Rattle.std.proofs.lemmas.List.Sorted.{IsPartitionPoint-from_clause}
use Rattle.deb_relation.specs.Views.{lent_bound_of}
use Rattle.deb_index.specs.Maps.{list_under}
use Rattle.deb_index.specs.Offers.{standing}
use Rattle.deb_index.proofs.Neighbours.{between, rest_from}
use Rattle.deb_index.proofs.Standings.{before_parted, upto_parted}
use Rattle.deb_index.proofs.crowds.Crowds.meeting.Goals as goal

pub returns : goal.returns
returns c =
    let store = c.args.store.now in
    let bound = lent_bound_of c.args.bound in
    let name = c.args.name.now in
    let xs = c.as_slice-offers.result.now in
    let kept : list_under c.args.self.now.offers name ≡ Some xs = search rules in
    let sorted = (c.requires.offers name xs kept).sorted in
    let start = c.partition_point-start.result in
    let rest = rest_from start xs in
    let first = IsPartitionPoint-from_clause (λ o. is_lt (standing store bound o)) xs start c.partition_point-start.ensures.partitioned (before_parted store bound xs sorted) (λ a r q k. search (rules, of_calls)) in
    let second = IsPartitionPoint-from_clause (λ o. is_le (standing store bound o)) _ _ c.partition_point-count.ensures.partitioned (subst (IsPartitionedBy (λ o. is_le (standing store bound o))) (sym rest) (upto_parted store bound xs sorted start c.partition_point-start.ensures.bound)) (λ a r q k. search (rules, of_calls)) in
    ap (option_map (filter (λ o. is_eq (standing store bound o)))) kept
    ∙ ap Some (sym (ap (take c.partition_point-count.result) rest ∙ between (standing store bound) xs start c.partition_point-count.result c.partition_point-start.ensures.bound first (rw rest at second)))

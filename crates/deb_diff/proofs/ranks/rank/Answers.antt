-- The rank is the number of those that come before, without those of other names.
use Rattle.std.proofs.Common.{◌∙◌, rules}
use Rattle.std.specs.Ordering.{is_lt}
use Rattle.std.proofs.lemmas.List.Sorted.{IsPartitionPoint-from_clause}
use Rattle.deb_diff.specs.Places.{placing_cmp, placing_of_ranked}
use Rattle.deb_diff.specs.Ranks.{series_cmp}
use Rattle.deb_diff.proofs.Placed.{before_parted, others_parted, rank_is}
use Rattle.deb_diff.proofs.ranks.rank.Goals as goal

pub returns : goal.returns
returns c =
    let one = placing_of_ranked c.args.entry.now in
    let xs = c.args.sorted.now in
    let point = IsPartitionPoint-from_clause (λ y. is_lt (placing_cmp (placing_of_ranked y) one)) xs c.partition_point-earlier.result c.partition_point-earlier.ensures.partitioned (before_parted one xs c.requires) (λ a r f called. search rules) in
    let point_others = IsPartitionPoint-from_clause (λ y. is_lt (series_cmp (placing_of_ranked y) one)) xs c.partition_point-others.result c.partition_point-others.ensures.partitioned (others_parted one xs c.requires) (λ a r f called. search rules) in
    c.saturating_sub.ensures ∙ rank_is one xs c.partition_point-earlier.result c.partition_point-others.result c.partition_point-earlier.ensures.bound c.partition_point-others.ensures.bound point point_others

use Rattle.std.proofs.Common.{rules, of_calls, sym, subst, ap, ◌∙◌, ◌-◌, take, drop, length, length-drop, length-take-le, arith}
use Rattle.std.specs.List.Sorted.{IsPartitionedBy}
use Rattle.std.proofs.lemmas.List.Sorted.{IsPartitionPoint-from_clause}
use Rattle.deb_index.specs.Entries.{entry_name}
use Rattle.deb_index.proofs.Neighbours.{comes_before, comes_upto, before-parted, upto-parted, neighbours, rest_from}
use Rattle.deb_index.proofs.provisions.Provisions.find.Goals as goal

pub returns-clause-value : goal.returns-clause-value
returns-clause-value c =
    let name = c.args.name.now in
    let text = c.args.self.now.text.now in
    let xs = c.args.self.now.entries.now in
    let start = c.partition_point-start.result in
    let rest = rest_from start xs in
    let ascend = c.args.self.now.ascend in
    let first = IsPartitionPoint-from_clause (comes_before (entry_name text) name) _ _ c.partition_point-start.ensures.partitioned (before-parted (entry_name text) name xs ascend) (λ a r q k. search (rules, of_calls)) in
    let second = IsPartitionPoint-from_clause (comes_upto (entry_name text) name) _ _ c.partition_point-count.ensures.partitioned (subst (IsPartitionedBy (comes_upto (entry_name text) name)) (sym rest) (upto-parted (entry_name text) name xs ascend start c.partition_point-start.ensures.bound)) (λ a r q k. search (rules, of_calls)) in
    ap (take c.partition_point-count.result) rest
    ∙ neighbours (entry_name text) name xs start c.partition_point-count.result c.partition_point-start.ensures.bound first (rw rest at second)

pub returns-clause-within : goal.returns-clause-within
returns-clause-within c =
    let xs = c.args.self.now.entries.now in
    let start = c.partition_point-start.result in
    let rest = take (length xs - start) (drop start xs) in
    omega (arith, length-take-le c.partition_point-count.result rest c.partition_point-count.ensures.bound, c.partition_point-count.ensures.bound, ap length (rest_from start xs), length-drop start xs, c.partition_point-start.ensures.bound)

pub returns-clause-place : goal.returns-clause-place
returns-clause-place c =
    let xs = c.args.self.now.entries.now in
    let start = c.partition_point-start.result in
    let count = c.partition_point-count.result in
    let rest = take (length xs - start) (drop start xs) in
    ap (take count) (rest_from start xs)
    ∙ ap (λ n. take n (drop start xs)) (omega (arith, length-take-le count rest c.partition_point-count.ensures.bound))

-- All new paragraphs are borrowed.
use Rattle.std.proofs.Common.{◌≡◌, length, map, sym, ap, ◌∙◌, subst, rules}
use Rattle.std.specs.List.{list_all}
use Rattle.deb_control.specs.Pairs.{Pairwise}
use Rattle.deb_diff.specs.Fates.{IsWhole}
use Rattle.deb_diff.specs.Pools.{pick}
use Rattle.deb_diff.proofs.Assembled.{pick-whole}
use Rattle.deb_diff.proofs.Boths.{pick-all}
use Rattle.deb_diff.proofs.all_lines.all_lines.Goals as goal

pub lines_between-requires : goal.lines_between-requires
lines_between-requires c =
    let lent : c.deref-5.result.now ≡ c.in_ok-new.new.items = search rules in
    let waits : c.deref-3.result.now ≡ c.in_ok-waits.waits.items = search rules in
    let count : c.len.result ≡ length c.deref-2.result.now = search rules in
    let new : c.deref-2.result.now ≡ c.deref-6.result.now = search rules in
    ap (map (λ k. k.now)) lent ∙ c.in_ok-new.ensures
    ∙ pick-all 0 c.deref-2.result.now c.deref-3.result.now (ap length waits ∙ c.in_ok-waits.ensures.count ∙ count) (ap (list_all (λ wait. wait)) waits ∙ c.in_ok-waits.ensures.all) ∙ new

pub returns : goal.returns
returns c = λ items added are are_new.
    let lent : c.deref-4.result.now ≡ c.in_ok-left.left.items = search rules in
    let waits : c.deref.result.now ≡ c.args.others.now.waits.items = search rules in
    let new : c.args.others.now.new.items ≡ c.deref-6.result.now = search rules in
    let left = map (λ e. e.1) (pick 0 items c.args.others.now.waits.items) in
    let old = ap (map (λ k. k.now)) lent ∙ c.in_ok-left.ensures ∙ ap (λ w. map (λ e. e.1) (pick 0 c.args.old.now w)) waits in
    c.lines_between.ensures left added
    (subst (λ l. Pairwise IsWhole l left) (sym old) (pick-whole IsWhole 0 c.args.old.now items c.args.others.now.waits.items are))
    (subst (λ l. Pairwise IsWhole l added) new are_new)

use Rattle.std.proofs.Common.{length, drop, sym, ap, ◌∙◌, subst, ◌≤◌}
use Rattle.std.specs.List.{prefix_len}
use Rattle.deb_index.proofs.Cutting.{entry_found, entry_missing, in_name}
use Rattle.deb_index.proofs.cut.plain_entry.Goals as goal

pub returns-in-Some : goal.returns-in-Some
returns-in-Some c = λ group regular is.
    let part_is = c.part-group.ensures in
    let k = length c.split_at.result.0.now in
    entry_found c.args.text.now c.args.number c.args.start c.args.end k c.in-Some.from c.in-Some.to c.split_at.result.1.now group regular is
    (c.split_at.ensures.front_len ∙ c.name_len.ensures.value ∙ ap (prefix_len in_name) part_is)
    c.requires.in_order c.requires.within
    (subst (λ t. k ≤ length t) part_is (subst (λ n. n ≤ length c.part-group.result.now) (sym c.split_at.ensures.front_len) c.name_len.ensures.bound))
    c.in-Some.ensures.within.0 c.in-Some.ensures.within.1
    (c.split_at.ensures.back ∙ ap (λ n. drop n c.part-group.result.now) (sym c.split_at.ensures.front_len) ∙ ap (drop k) part_is)
    c.in-Some.ensures.offsets c.in-Some.ensures.faultless

pub returns-in-None : goal.returns-in-None
returns-in-None c = λ group regular is.
    let part_is = c.part-group.ensures in
    let k = length c.split_at.result.0.now in
    entry_missing c.args.text.now c.args.number c.args.start c.args.end k c.split_at.result.1.now group regular is
    (c.split_at.ensures.front_len ∙ c.name_len.ensures.value ∙ ap (prefix_len in_name) part_is)
    (c.split_at.ensures.back ∙ ap (λ n. drop n c.part-group.result.now) (sym c.split_at.ensures.front_len) ∙ ap (drop k) part_is)
    c.in-None.ensures.offsets

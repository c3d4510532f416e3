-- The first fields of both texts, or of one.
use Rattle.std.proofs.Common.{sym, ap, ◌∙◌}
use Rattle.std.proofs.lemmas.Cmp.{nat_list_cmp_total}
use Rattle.std.specs.Ordering.{ordering_reverse}
use Rattle.deb_diff.proofs.Merging.{below_first, takes_both, takes_left, takes_right}
use Rattle.deb_diff.proofs.differing.compare_first.Goals.{in-Less, in-Greater, in-Equal}
use Rattle.deb_diff.proofs.differing.compare_first.Goals as goal

pub returns-in-None-Some-clause-merges : goal.returns-in-None-Some-clause-merges
returns-in-None-Some-clause-merges c = λ entries others cut other_cut is is_too.
    takes_right entries others c.in-None-Some.other c.args.old.now cut other_cut (c.in-None-Some.ensures'.first others other_cut.each is_too) is
    (below_first c.in-None-Some.other.name.now entries _ cut (c.in-None-Some.ensures.first entries cut.each is) tt)

pub returns-in-Some-None-clause-merges : goal.returns-in-Some-None-clause-merges
returns-in-Some-None-clause-merges c = λ entries others cut other_cut is is_too.
    takes_left entries others c.in-Some-None.field c.args.new.now cut other_cut (c.in-Some-None.ensures.first entries cut.each is) is_too
    (below_first c.in-Some-None.field.name.now others _ other_cut (c.in-Some-None.ensures'.first others other_cut.each is_too) tt)

pub returns-after-cmp-clause-merges : goal.returns-after-cmp-clause-merges
returns-after-cmp-clause-merges c = λ entries others cut other_cut is is_too.
    let first = c.in-Some-Some.ensures.first entries cut.each is in
    let other_first = c.in-Some-Some.ensures'.first others other_cut.each is_too in
    elim c.match-cmp.branch [
      | in-Less w ↦ rw w.result-is (takes_left entries others c.in-Some-Some.field c.args.new.now cut other_cut first is_too (below_first c.in-Some-Some.field.name.now others _ other_cut other_first (sym w.in-Less.ensures)))
      | in-Greater w ↦ rw w.result-is (takes_right entries others c.in-Some-Some.other c.args.old.now cut other_cut other_first is (below_first c.in-Some-Some.other.name.now entries _ cut first (nat_list_cmp_total.antisymm c.in-Some-Some.other.name.now c.in-Some-Some.field.name.now ∙ ap ordering_reverse (sym w.in-Greater.ensures))))
      | in-Equal w ↦ rw w.result-is (takes_both entries others c.in-Some-Some.field c.in-Some-Some.other _ cut other_cut first other_first (sym w.in-Equal.ensures) w.unless_equal.ensures)
    ]

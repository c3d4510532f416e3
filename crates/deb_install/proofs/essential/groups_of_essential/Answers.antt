use Rattle.std.proofs.Common.{[], take, sym, ap, ◌∙◌, subst}
use Rattle.std.specs.List.{flat_map}
use Rattle.deb_install.specs.Building.{AppendsRows}
use Rattle.deb_install.specs.Keeping.{HoldsValues}
use Rattle.deb_install.proofs.Appended.{appends-none, appends-then, rows-more}
use Rattle.deb_install.proofs.Needed.{essential_of}
use Rattle.deb_install.proofs.NextOf.{all-of, next-of}
use Rattle.deb_install.proofs.essential.groups_of_essential.Goals as goal

pub loop-count-init : goal.loop-count-init
loop-count-init c = λ meaning holds.
    subst (λ items. AppendsRows c.args.groups.now.rows c.args.groups.now.rows [] items []) (sym c.new-shared.ensures.items) (appends-none c.args.groups.now.rows [])

pub loop-count-preserved : goal.loop-count-preserved
loop-count-preserved c = λ meaning holds.
    let n = c.loop-count.count in
    let rows = essential_of c.args.listing.now in
    let next = next-of HoldsValues meaning c.args.kept.now n c.index-kept-count.result c.loop-count-test.true c.index-kept-count.is holds in
    subst (AppendsRows c.args.groups.now.rows c.append_if_essential.new.groups.rows [] c.append_if_essential.new.out.items) (sym (rows-more rows (take n meaning) next.x) ∙ ap (flat_map rows) (sym next.taken))
    (appends-then c.args.groups.now.rows c.loop-count.groups.rows c.append_if_essential.new.groups.rows [] c.loop-count.shared.items c.append_if_essential.new.out.items (flat_map rows (take n meaning)) (rows next.x)
    (c.loop-count.invariant meaning holds) (c.in_ok-append_if_essential.ensures next.x next.related))

pub returns : goal.returns
returns c = λ meaning holds.
    subst (λ done. AppendsRows c.args.groups.now.rows c.loop-count.groups.rows [] c.loop-count.shared.items (flat_map (essential_of c.args.listing.now) done)) (all-of HoldsValues meaning c.args.kept.now c.loop-count.count c.loop-count-test.false holds) (c.loop-count.invariant meaning holds)

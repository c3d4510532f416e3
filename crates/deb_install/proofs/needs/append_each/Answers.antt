use Rattle.std.proofs.Common.{sym, ◌∙◌}
use Rattle.std.specs.List.{flat_map}
use Rattle.deb_index.proofs.TextPieces.{alternatives_all, alternatives_more, alternatives_none}
use Rattle.deb_install.specs.Building.{AppendsRows}
use Rattle.deb_install.proofs.Appended.{appends-none, appends-then, rows-more}
use Rattle.deb_install.proofs.Needed.{each_of}
use Rattle.deb_install.proofs.needs.append_each.Goals as goal

pub loop-rest-init : goal.loop-rest-init
loop-rest-init c = λ g regular is.
    alternatives_none (λ done. AppendsRows c.args.groups.now.rows c.args.groups.now.rows c.args.out.now.items c.args.out.now.items (flat_map (each_of c.args.needing.now) done)) g c.args.group.now regular is (appends-none c.args.groups.now.rows c.args.out.now.items)

pub loop-rest-preserved : goal.loop-rest-preserved
loop-rest-preserved c = λ g regular is.
    let rows = each_of c.args.needing.now in
    alternatives_more (λ done. AppendsRows c.args.groups.now.rows c.loop-rest.groups.rows c.args.out.now.items c.loop-rest.out.items (flat_map rows done)) (λ done. AppendsRows c.args.groups.now.rows c.append_row_if.new.groups.rows c.args.out.now.items c.append_row_if.new.out.items (flat_map rows done)) g c.loop-rest.rest.now c.in_ok-relation.others.now (c.loop-rest.invariant g regular is) (sym c.is_empty.ensures ∙ c.loop-rest-test.true)
    c.in_ok-relation.ensures.others
    (λ a more done good text so_far. rw (rows-more rows done a) (appends-then c.args.groups.now.rows c.loop-rest.groups.rows c.append_row_if.new.groups.rows c.args.out.now.items c.loop-rest.out.items c.append_row_if.new.out.items (flat_map rows done) (rows a) so_far (c.in_ok-append_row_if.ensures a (c.in_ok-relation.ensures.first a more good text))))

pub returns : goal.returns
returns c = λ g regular is.
    alternatives_all (λ done. AppendsRows c.args.groups.now.rows c.loop-rest.groups.rows c.args.out.now.items c.loop-rest.out.items (flat_map (each_of c.args.needing.now) done)) g c.loop-rest.rest.now (c.loop-rest.invariant g regular is) (sym c.is_empty.ensures ∙ c.loop-rest-test.false)

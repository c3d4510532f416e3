use Rattle.std.proofs.Common.{sym, ◌∙◌}
use Rattle.std.specs.List.{flat_map}
use Rattle.deb_index.proofs.TextPieces.{groups_all, groups_more, groups_none}
use Rattle.deb_install.specs.Known.{AppendsKnown}
use Rattle.deb_install.proofs.Appended.{appends-none, rows-more}
use Rattle.deb_install.proofs.Needed.{rows_of}
use Rattle.deb_install.proofs.Noted.{appended-known, known-then}
use Rattle.deb_install.proofs.needs.append_groups.Goals as goal

pub loop-rest-init : goal.loop-rest-init
loop-rest-init c = λ environment knows m regular is.
    let needing = c.args.needing.now in
    let groups = c.args.groups.now.rows in
    let out = c.args.out.now.items in
    groups_none (λ done. AppendsKnown needing environment groups groups c.args.known.now out out (flat_map (rows_of needing) done)) m c.args.text.now regular is
    (appended-known needing environment groups groups c.args.known.now out out _ knows (appends-none groups out))

pub loop-rest-preserved : goal.loop-rest-preserved
loop-rest-preserved c = λ environment knows m regular is.
    let needing = c.args.needing.now in
    let rows = rows_of needing in
    let groups = c.args.groups.now.rows in
    let out = c.args.out.now.items in
    let new = c.append_known.new in
    groups_more (λ done. AppendsKnown needing environment groups c.loop-rest.groups.rows c.loop-rest.known out c.loop-rest.out.items (flat_map rows done)) (λ done. AppendsKnown needing environment groups new.groups.rows new.known out new.out.items (flat_map rows done)) m c.loop-rest.rest.now c.cut_group.result.1.now (c.loop-rest.invariant environment knows m regular is) (sym c.is_empty.ensures ∙ c.loop-rest-test.true) c.cut_group.ensures.others
    (λ g gs done good text so_far. rw (rows-more rows done g) (known-then needing environment groups c.loop-rest.groups.rows new.groups.rows c.loop-rest.known new.known out c.loop-rest.out.items new.out.items (flat_map rows done) (rows g) so_far (c.in_ok-append_known.ensures environment so_far.knows g good (c.cut_group.ensures.first g gs good text))))

pub returns : goal.returns
returns c = λ environment knows m regular is.
    let needing = c.args.needing.now in
    groups_all (λ done. AppendsKnown needing environment c.args.groups.now.rows c.loop-rest.groups.rows c.loop-rest.known c.args.out.now.items c.loop-rest.out.items (flat_map (rows_of needing) done)) m c.loop-rest.rest.now (c.loop-rest.invariant environment knows m regular is) (sym c.is_empty.ensures ∙ c.loop-rest-test.false)

use Rattle.std.proofs.Common.{◌≡◌, [], sym, ◌∙◌}
use Rattle.std.specs.List.{flat_map}
use Rattle.deb_index.proofs.TextPieces.{alternatives_all, alternatives_more, alternatives_none, lines_more}
use Rattle.deb_install.proofs.Needed.{counted_of}
use Rattle.deb_install.proofs.needs.candidates_of.Goals as goal

pub loop-rest-init : goal.loop-rest-init
loop-rest-init c = λ g regular is.
    alternatives_none (λ done. c.new-row.result.items ≡ flat_map (counted_of c.args.needing.now) done) g c.args.group.now regular is c.new-row.ensures.items

pub loop-rest-preserved : goal.loop-rest-preserved
loop-rest-preserved c = λ g regular is.
    let each = counted_of c.args.needing.now in
    alternatives_more (λ done. c.loop-rest.row.items ≡ flat_map each done) (λ done. c.append_if.new.row.items ≡ flat_map each done) g c.loop-rest.rest.now c.in_ok-relation.others.now (c.loop-rest.invariant g regular is) (sym c.is_empty.ensures ∙ c.loop-rest-test.true)
    c.in_ok-relation.ensures.others
    (λ a more done good text so_far. lines_more each done a [] c.loop-rest.row.items c.append_if.new.row.items so_far (c.in_ok-append_if.ensures a (c.in_ok-relation.ensures.first a more good text)))

pub returns : goal.returns
returns c = λ g regular is.
    alternatives_all (λ done. c.loop-rest.row.items ≡ flat_map (counted_of c.args.needing.now) done) g c.loop-rest.rest.now (c.loop-rest.invariant g regular is) (sym c.is_empty.ensures ∙ c.loop-rest-test.false)

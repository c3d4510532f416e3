use Rattle.std.proofs.Common.{◌≡◌, ◌++◌, append-nil, sym, ◌∙◌}
use Rattle.std.specs.List.{flat_map}
use Rattle.deb_index.proofs.TextPieces.{alternatives_all, alternatives_more, alternatives_none, lines_more}
use Rattle.deb_install.proofs.Excluded.{alternatives_of}
use Rattle.deb_install.proofs.exclusions.append_group.Goals as goal

pub loop-rest-init : goal.loop-rest-init
loop-rest-init c = λ g regular is.
    alternatives_none (λ done. c.args.out.now.items ≡ c.args.out.now.items ++ flat_map (alternatives_of c.args.excluding.now) done) g c.args.group.now regular is (sym (append-nil c.args.out.now.items))

pub loop-rest-preserved : goal.loop-rest-preserved
loop-rest-preserved c = λ g regular is.
    let each = alternatives_of c.args.excluding.now in
    alternatives_more (λ done. c.loop-rest.out.items ≡ c.args.out.now.items ++ flat_map each done) (λ done. c.append_only.new.out.items ≡ c.args.out.now.items ++ flat_map each done) g c.loop-rest.rest.now c.in_ok-relation.others.now (c.loop-rest.invariant g regular is) (sym c.is_empty.ensures ∙ c.loop-rest-test.true)
    c.in_ok-relation.ensures.others
    (λ a more done good text so_far. lines_more each done a c.args.out.now.items c.loop-rest.out.items c.append_only.new.out.items so_far (c.in_ok-append_only.ensures a (c.in_ok-relation.ensures.first a more good text)))

pub returns : goal.returns
returns c = λ g regular is.
    alternatives_all (λ done. c.loop-rest.out.items ≡ c.args.out.now.items ++ flat_map (alternatives_of c.args.excluding.now) done) g c.loop-rest.rest.now (c.loop-rest.invariant g regular is) (sym c.is_empty.ensures ∙ c.loop-rest-test.false)

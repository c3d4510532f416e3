-- One alternative decides, or all do.
use Rattle.std.proofs.Common.{refl, sym, ◌∙◌}
use Rattle.deb_relation.specs.Environments.{environment_of}
use Rattle.deb_index.specs.Indexes.{packages_of}
use Rattle.deb_index.proofs.TextPieces.{alternatives_all, alternatives_at, alternatives_more, alternatives_none}
use Rattle.deb_unmet.proofs.Groups.{Tried, no-trouble, tried-all, tried-more}
use Rattle.deb_unmet.proofs.group.trouble_of.Goals as goal

pub loop-rest-init : goal.loop-rest-init
loop-rest-init c = λ group regular is. alternatives_none (Tried (environment_of c.args.question.now.environment.now) (packages_of c.args.question.now.index.now) _) group c.args.group.now regular is (record { none = refl; unmet = refl; met = refl; applies = refl })

pub loop-rest-preserved : goal.loop-rest-preserved
loop-rest-preserved c = λ group regular is.
    let environment = environment_of c.args.question.now.environment.now in
    let packages = packages_of c.args.question.now.index.now in
    alternatives_more (Tried environment packages c.loop-rest.readings) (Tried environment packages c.in-Some.more) group c.loop-rest.rest.now c.in_ok-relation.others.now (c.loop-rest.invariant group regular is) (sym c.is_empty.ensures ∙ c.loop-rest-test.true) c.in_ok-relation.ensures.others
    (λ a more done good text so_far. tried-more environment packages done a c.loop-rest.readings c.in-Some.more (sym (c.in-Some.ensures a (c.in_ok-relation.ensures.first a more good text))) so_far)

pub returns-in-None : goal.returns-in-None
returns-in-None c = λ group regular is.
    let environment = environment_of c.args.question.now.environment.now in
    let packages = packages_of c.args.question.now.index.now in
    alternatives_at (Tried environment packages c.loop-rest.readings) group c.loop-rest.rest.now _ (c.loop-rest.invariant group regular is) (sym c.is_empty.ensures ∙ c.loop-rest-test.true)
    (λ a more done good text all. no-trouble environment packages group done more a c.loop-rest.readings (sym (c.in-None.ensures a (c.in_ok-relation.ensures.first a more good text))) all)

pub returns : goal.returns
returns c = λ group regular is.
    let environment = environment_of c.args.question.now.environment.now in
    let packages = packages_of c.args.question.now.index.now in
    c.trouble.ensures ∙ tried-all environment packages group c.loop-rest.readings (alternatives_all (Tried environment packages c.loop-rest.readings) group c.loop-rest.rest.now (c.loop-rest.invariant group regular is) (sym c.is_empty.ensures ∙ c.loop-rest-test.false))

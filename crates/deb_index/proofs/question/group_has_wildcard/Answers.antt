use Rattle.std.proofs.Common.{◌≡◌, false, refl, sym, ◌∙◌}
use Rattle.std.specs.List.{list_any}
use Rattle.deb_relation.specs.Relations.{relation_of}
use Rattle.deb_relation.specs.Tests.{has_wildcard}
use Rattle.deb_index.proofs.TextPieces.{alternatives_all, alternatives_at, alternatives_more, alternatives_none}
use Rattle.deb_index.proofs.Wildcards.{alone_has, none_more, some_found}
use Rattle.deb_index.proofs.question.group_has_wildcard.Goals as goal

pub loop-rest-init : goal.loop-rest-init
loop-rest-init c = λ group regular is. alternatives_none (λ done. list_any has_wildcard done ≡ false) group c.args.text.now regular is refl

pub loop-rest-preserved : goal.loop-rest-preserved
loop-rest-preserved c = λ group regular is.
    alternatives_more (λ done. list_any has_wildcard done ≡ false) (λ done. list_any has_wildcard done ≡ false) group c.loop-rest.rest.now c.in_ok-relation.others.now (c.loop-rest.invariant group regular is) (sym c.is_empty.ensures ∙ c.loop-rest-test.true) c.in_ok-relation.ensures.others
    (λ a more done good text none. none_more has_wildcard done a c.has_wildcard.result (alone_has (relation_of c.in_ok-relation.relation) a c.has_wildcard.result (c.in_ok-relation.ensures.first a more good text) c.has_wildcard.ensures) c.if-has_wildcard.false none)

pub returns-then-has_wildcard : goal.returns-then-has_wildcard
returns-then-has_wildcard c = λ group regular is.
    alternatives_at (λ done. list_any has_wildcard done ≡ false) group c.loop-rest.rest.now _ (c.loop-rest.invariant group regular is) (sym c.is_empty.ensures ∙ c.loop-rest-test.true)
    (λ a more done good text all. some_found has_wildcard group done more a c.has_wildcard.result all (alone_has (relation_of c.in_ok-relation.relation) a c.has_wildcard.result (c.in_ok-relation.ensures.first a more good text) c.has_wildcard.ensures) c.if-has_wildcard.true)

pub returns : goal.returns
returns c = λ group regular is. sym (alternatives_all (λ done. list_any has_wildcard done ≡ false) group c.loop-rest.rest.now (c.loop-rest.invariant group regular is) (sym c.is_empty.ensures ∙ c.loop-rest-test.false))

use Rattle.std.proofs.Common.{◌≡◌, false, refl, sym, ◌∙◌}
use Rattle.std.specs.List.{list_any}
use Rattle.deb_relation.specs.Tests.{has_wildcard, some_wildcard}
use Rattle.deb_index.proofs.TextPieces.{groups_all, groups_at, groups_more, groups_none}
use Rattle.deb_index.proofs.Wildcards.{none_more, some_found}
use Rattle.deb_index.proofs.question.some_wildcard.Goals as goal

pub loop-rest-init : goal.loop-rest-init
loop-rest-init c = λ m regular is. groups_none (λ done. some_wildcard done ≡ false) m c.args.text.now regular is refl

pub loop-rest-preserved : goal.loop-rest-preserved
loop-rest-preserved c = λ m regular is.
    groups_more (λ done. some_wildcard done ≡ false) (λ done. some_wildcard done ≡ false) m c.loop-rest.rest.now c.cut_group.result.1.now (c.loop-rest.invariant m regular is) (sym c.is_empty.ensures ∙ c.loop-rest-test.true) c.cut_group.ensures.others
    (λ g gs done good text none. none_more (list_any has_wildcard) done g c.in_ok-some.some (c.in_ok-some.ensures g good (c.cut_group.ensures.first g gs good text)) c.if-some.false none)

pub returns-then-some : goal.returns-then-some
returns-then-some c = λ m regular is.
    groups_at (λ done. some_wildcard done ≡ false) m c.loop-rest.rest.now _ (c.loop-rest.invariant m regular is) (sym c.is_empty.ensures ∙ c.loop-rest-test.true)
    (λ g gs done good text all. some_found (list_any has_wildcard) m done gs g c.in_ok-some.some all (c.in_ok-some.ensures g good (c.cut_group.ensures.first g gs good text)) c.if-some.true)

pub returns : goal.returns
returns c = λ m regular is. sym (groups_all (λ done. some_wildcard done ≡ false) m c.loop-rest.rest.now (c.loop-rest.invariant m regular is) (sym c.is_empty.ensures ∙ c.loop-rest-test.false))

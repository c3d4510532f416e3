use Rattle.std.proofs.Common.{◌≡◌, ◌||◌, refl, sym, ap, ◌∙◌}
use Rattle.std.specs.List.{list_any}
use Rattle.deb_index.proofs.TextPieces.{alternatives_all, alternatives_more, alternatives_none}
use Rattle.deb_install.proofs.Appended.{any-more}
use Rattle.deb_install.proofs.Needed.{sure_of}
use Rattle.deb_install.proofs.needs.some_surely_applies.Goals as goal
use Rattle.deb_install.proofs.needs.some_surely_applies.Goals.{then-found, else-found}

pub loop-rest-init : goal.loop-rest-init
loop-rest-init c = λ g regular is.
    alternatives_none (λ done. _ ≡ list_any (sure_of c.args.needing.now) done) g c.args.group.now regular is refl

pub loop-rest-preserved : goal.loop-rest-preserved
loop-rest-preserved c = λ g regular is.
    let sure = sure_of c.args.needing.now in
    let surely = c.surely_applies-surely.result in
    let either : c.if-found.found ≡ (c.loop-rest.found || surely) =
    elim c.if-found.branch [
      | then-found w ↦ w.found-is ∙ w.if-found.true ∙ ap (λ b. b || surely) (sym w.if-found.true)
      | else-found w ↦ w.found-is ∙ ap (λ b. b || surely) (sym w.if-found.false)
    ] in
    alternatives_more (λ done. c.loop-rest.found ≡ list_any sure done) (λ done. c.if-found.found ≡ list_any sure done) g c.loop-rest.rest.now c.in_ok-relation.others.now (c.loop-rest.invariant g regular is) (sym c.is_empty.ensures ∙ c.loop-rest-test.true)
    c.in_ok-relation.ensures.others
    (λ a more done good text so_far. either ∙ ap (λ v. v || surely) so_far ∙ ap (λ v. list_any sure done || v) (c.surely_applies-surely.ensures a (c.in_ok-relation.ensures.first a more good text)) ∙ sym (any-more sure done a))

pub returns : goal.returns
returns c = λ g regular is.
    alternatives_all (λ done. c.loop-rest.found ≡ list_any (sure_of c.args.needing.now) done) g c.loop-rest.rest.now (c.loop-rest.invariant g regular is) (sym c.is_empty.ensures ∙ c.loop-rest-test.false)

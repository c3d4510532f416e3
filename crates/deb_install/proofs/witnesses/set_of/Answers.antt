use Rattle.std.proofs.Common.{subst}
use Rattle.deb_relation.specs.Views.{names_of}
use Rattle.deb_solve.specs.Verdicts.{IsWitness}
use Rattle.deb_install.specs.Universes.{setting_of}
use Rattle.deb_install.proofs.FileAnswers.{if-value}
use Rattle.deb_install.proofs.FilesSought.{found-in, nothing-found}
use Rattle.deb_install.proofs.witnesses.set_of.Goals as goal

pub returns-in-Some : goal.returns-in-Some
returns-in-Some c = λ meaning holds lists.
    if-value _ _
    (λ found witness. found-in (setting_of c.args.listing.now meaning) (names_of c.args.request.now.names.now) c.in-Some.universe c.in_ok-wanted.wanted.items found
    (rw c.in-Some.is at c.in_ok-universe.ensures meaning holds) lists c.in_ok-wanted.ensures
    (subst (λ wanted. IsWitness c.in-Some.universe wanted found) c.deref.ensures.value witness))
    c.witness.result c.witness.ensures

pub returns : goal.returns
returns c = λ meaning holds lists. nothing-found (setting_of c.args.listing.now meaning) _ c.new.ensures.items

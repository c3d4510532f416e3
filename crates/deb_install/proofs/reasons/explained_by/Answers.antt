use Rattle.std.proofs.Common.{subst}
use Rattle.deb_index.specs.Indexes.{packages_of}
use Rattle.deb_relation.specs.Environments.{environment_of}
use Rattle.deb_install.specs.Answers.{answer_at, names_in}
use Rattle.deb_install.specs.Explaining.{HasExplained}
use Rattle.deb_install.specs.Universes.{IsUniverseOf, setting, terms_in}
use Rattle.deb_install.proofs.FileAnswers.{if-value}
use Rattle.deb_install.proofs.ReasonedLines.{has-reasons}
use Rattle.deb_install.proofs.reasons.explained_by.Goals as goal

pub returns : goal.returns
returns c = λ meaning holds lists one is.
    let explaining = c.args.explaining.now in
    let listing = explaining.listing.now in
    let t = terms_in listing in
    let environment = environment_of listing.environment.now in
    let packages = packages_of listing.index.now in
    let u = explaining.universe.now in
    if-value _ _
    (λ text has. has-reasons t environment packages meaning (names_in explaining.names) u c.args.every.now c.in_ok-one.one.items text.items
    (subst (λ r. IsUniverseOf (setting r t environment packages meaning) u) one is) lists c.in_ok-one.ensures
    (subst (λ r. HasExplained (setting r t environment packages meaning) u (names_in explaining.names) (answer_at c.args.every.now c.in_ok-one.one.items) text.items) one
    (rw c.deref.ensures.value at has)))
    c.explained_lines.result (c.explained_lines.ensures meaning holds)

use Rattle.std.proofs.Common.{length, subst}
use Rattle.deb_control.proofs.GivenValues.{pairwise-length}
use Rattle.deb_index.specs.Indexes.{packages_of}
use Rattle.deb_relation.specs.Environments.{environment_of}
use Rattle.deb_install.specs.Answers.{answer_at}
use Rattle.deb_install.specs.KeptSources.{HoldsSource}
use Rattle.deb_install.specs.SourceExplaining.{HasSourcesExplained}
use Rattle.deb_install.specs.SourceRows.{IsUniverseWith}
use Rattle.deb_install.specs.Universes.{setting, terms_in}
use Rattle.deb_install.proofs.FileAnswers.{if-value}
use Rattle.deb_install.proofs.ReasonedSources.{has-reasons}
use Rattle.deb_install.proofs.SourceVerdicts.{verdicts-of-sources}
use Rattle.deb_install.specs.declared.readings.Readings.TheVariants.{One}
use Rattle.deb_install.proofs.source_reasons.explained_by.Goals as goal

pub returns : goal.returns
returns c = λ kind meaning others holds lists one is.
    let explaining = c.args.explaining.now in
    let listing = explaining.packages.now.listing.now in
    let t = terms_in listing in
    let environment = environment_of listing.environment.now in
    let packages = packages_of listing.index.now in
    let u = explaining.packages.now.universe.now in
    let sources = explaining.sources.now in
    let s = setting One t environment packages meaning in
    let here = subst (λ r. IsUniverseWith (setting r t environment packages meaning) others u) one is in
    let verdicts = c.in_ok-one.one.items in
    if-value _ _
    (λ text has. has-reasons kind t environment packages meaning others c.args.every.now text.items u verdicts here lists
    (verdicts-of-sources s others u verdicts (length sources) here lists c.in_ok-one.ensures (pairwise-length (HoldsSource kind) others sources holds.sources))
    (subst (λ r. HasSourcesExplained kind (setting r t environment packages meaning) others u (answer_at c.args.every.now verdicts) text.items) one
    (rw c.deref.ensures.value at has)))
    c.explained_sources.result (c.explained_sources.ensures kind meaning others holds)

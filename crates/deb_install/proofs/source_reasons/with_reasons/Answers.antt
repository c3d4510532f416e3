use Rattle.std.proofs.Common.{ap, ◌∙◌}
use Rattle.deb_index.specs.Indexes.{packages_of}
use Rattle.deb_relation.specs.Environments.{environment_of}
use Rattle.deb_relation.specs.Views.{names_of}
use Rattle.deb_install.specs.Universes.{terms_in}
use Rattle.deb_install.proofs.FileAnswers.{if-value}
use Rattle.deb_install.proofs.ReasonedSources.{has-no-reasons}
use Rattle.deb_install.proofs.source_reasons.with_reasons.Goals as goal

pub returns-in_ok-essential-in-Some : goal.returns-in_ok-essential-in-Some
returns-in_ok-essential-in-Some c = λ kind meaning others holds lists sources one.
    let is = rw c.in-Some.is at c.in_ok-universe.ensures kind meaning others holds sources in
    c.explained_by.ensures kind meaning others
    (record {
      packages =
          record {
            holds = holds;
            essential = ap names_of c.deref.ensures.value ∙ c.in_ok-essential-in-Some.ensures meaning holds;
          };
      sources = sources;
    })
    lists one is

pub returns-in-None : goal.returns-in-None
returns-in-None c = λ kind meaning others holds lists sources one.
    let listing = c.args.listing.now in
    if-value _ _
    (λ text is. has-no-reasons kind (terms_in listing) (environment_of listing.environment.now) (packages_of listing.index.now) meaning others c.args.every.now text.items is)
    c.lines_of_sources.result (c.lines_of_sources.ensures kind others sources)

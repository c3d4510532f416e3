use Rattle.std.proofs.Common.{[], subst}
use Rattle.deb_index.specs.Indexes.{packages_of}
use Rattle.deb_relation.specs.Environments.{environment_of}
use Rattle.deb_install.specs.Building.{AppendsRows}
use Rattle.deb_install.specs.Universes.{terms_in}
use Rattle.deb_install.proofs.EssentialRows.{rows-asked}
use Rattle.deb_install.proofs.FileAnswers.{if-value}
use Rattle.deb_install.proofs.essential.essential_groups.Goals as goal

pub returns-then-listing : goal.returns-then-listing
returns-then-listing c = λ meaning holds.
    let listing = c.args.listing.now in
    if-value _ _ (λ shared. subst (AppendsRows _ _ [] shared.items) (rows-asked (terms_in listing) (environment_of listing.environment.now).native (packages_of listing.index.now) meaning c.if-listing.true))
    c.groups_of_essential.result (c.groups_of_essential.ensures meaning holds)

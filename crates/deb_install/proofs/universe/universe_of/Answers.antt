use Rattle.deb_install.specs.Universes.{setting_of}
use Rattle.deb_install.proofs.UniverseRows.{rows-moved}
use Rattle.deb_install.proofs.universe.universe_of.Goals as goal

pub returns-in-Some : goal.returns-in-Some
returns-in-Some c = λ meaning holds.
    rows-moved (setting_of c.args.listing.now meaning) _ c.in-Some.building c.into_universe.ensures.needs c.into_universe.ensures.groups c.into_universe.ensures.excludes (rw c.in-Some.is at c.in_ok-building.ensures meaning holds).rows

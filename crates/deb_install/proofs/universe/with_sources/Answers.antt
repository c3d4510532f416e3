use Rattle.deb_install.specs.Universes.{setting_of}
use Rattle.deb_install.proofs.UniverseRows.{with-moved, with-sources}
use Rattle.deb_install.proofs.universe.with_sources.Goals as goal

pub returns : goal.returns
returns c = λ kind meaning others built are.
    let s = setting_of c.args.listing.now meaning in
    with-moved s others _ c.append_sources.new.building c.into_universe.ensures.needs c.into_universe.ensures.groups c.into_universe.ensures.excludes
    (with-sources s others _ _ built.rows (c.in_ok-append_sources.ensures kind meaning others are built.known))

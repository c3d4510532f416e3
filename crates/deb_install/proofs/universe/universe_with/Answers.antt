use Rattle.deb_install.proofs.universe.universe_with.Goals as goal

pub returns-in_ok-with_sources-in-Some : goal.returns-in_ok-with_sources-in-Some
returns-in_ok-with_sources-in-Some c = λ kind meaning others holds are.
    c.in_ok-with_sources-in-Some.ensures kind meaning others (rw c.in-Some.is at c.in_ok-building.ensures meaning holds) are

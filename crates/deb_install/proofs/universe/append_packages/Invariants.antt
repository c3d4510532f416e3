-- The rows of the packages so far.
use Rattle.std.proofs.Common.{[], take}
use Rattle.deb_control.specs.Documents.{Meaning}
use Rattle.deb_control.specs.Pairs.{Pairwise}
use Rattle.deb_install.specs.Building.{AreNumbersOf}
use Rattle.deb_install.specs.Keeping.{HoldsValues}
use Rattle.deb_install.specs.Universes.{IsBuilt, setting_of, shared_rows}
use Rattle.deb_install.proofs.Universes.{RowsSoFar}
use Rattle.deb_install.proofs.universe.append_packages.Given as goal

abbrev pub invariant-loop-count : goal.invariant-loop-count
invariant-loop-count l =
    (meaning : Meaning) → Pairwise HoldsValues meaning l.kept
    → IsBuilt (setting_of l.listing meaning) [] l.initial.building
    → AreNumbersOf l.initial.building.groups.rows l.shared (shared_rows (setting_of l.listing meaning))
    → RowsSoFar (setting_of l.listing meaning) (take l.count meaning) l.shared l.building

-- The rows of the packages so far.
use Rattle.std.proofs.Common.{[], take}
use Rattle.std.specs.List.{flat_map}
use Rattle.deb_control.specs.Documents.{Meaning}
use Rattle.deb_control.specs.Pairs.{Pairwise}
use Rattle.deb_install.specs.Building.{AppendsRows}
use Rattle.deb_install.specs.Keeping.{HoldsValues}
use Rattle.deb_install.proofs.Needed.{essential_of}
use Rattle.deb_install.proofs.essential.groups_of_essential.Given as goal

abbrev pub invariant-loop-count : goal.invariant-loop-count
invariant-loop-count l =
    (meaning : Meaning) → Pairwise HoldsValues meaning l.kept
    → AppendsRows l.initial.groups.rows l.groups.rows [] l.shared.items (flat_map (essential_of l.listing) (take l.count meaning))

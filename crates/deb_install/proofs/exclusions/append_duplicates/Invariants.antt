-- The numbers so far.
use Rattle.std.proofs.Common.{◌≡◌, ◌++◌, not, take}
use Rattle.std.specs.List.{flat_map}
use Rattle.deb_index.specs.Indexes.{packages_of}
use Rattle.deb_index.specs.Kept.{listed_of}
use Rattle.deb_health.proofs.Duplicates.{lines_behind}
use Rattle.deb_health.specs.Together.{are_together}
use Rattle.deb_install.proofs.Excluded.{alone}
use Rattle.deb_install.proofs.exclusions.append_duplicates.Given as goal

abbrev pub invariant-loop-number : goal.invariant-loop-number
invariant-loop-number l =
    l.out.items ≡ l.initial.out.items ++ flat_map (lines_behind l.original.number (λ q. not (are_together l.original.target.now (listed_of l.«package») q)) (packages_of l.original.index.now) alone) (take l.number-index l.number-items)

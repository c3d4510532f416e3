-- The numbers so far.
use Rattle.std.proofs.Common.{◌≡◌, ◌++◌, take}
use Rattle.std.specs.List.{flat_map}
use Rattle.deb_install.proofs.Excluded.{alone}
use Rattle.deb_install.proofs.needs.append_numbers.Given as goal

abbrev pub invariant-loop-number : goal.invariant-loop-number
invariant-loop-number l =
    l.row.items ≡ l.initial.row.items ++ flat_map alone (take l.number-index l.numbers)

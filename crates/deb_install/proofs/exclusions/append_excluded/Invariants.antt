-- The numbers so far.
use Rattle.std.proofs.Common.{◌≡◌, ◌++◌, take}
use Rattle.std.specs.List.{flat_map}
use Rattle.deb_relation.specs.Views.{alternative_of}
use Rattle.deb_index.specs.Indexes.{packages_of}
use Rattle.deb_health.specs.Excluding.{is_other}
use Rattle.deb_health.proofs.Exclusions.{lines_if}
use Rattle.deb_install.proofs.Excluded.{alone}
use Rattle.deb_install.proofs.exclusions.append_excluded.Given as goal

abbrev pub invariant-loop-number : goal.invariant-loop-number
invariant-loop-number l =
    l.out.items ≡ l.initial.out.items ++ flat_map (lines_if (is_other l.excluding.target.now l.excluding.name.now (alternative_of l.alternative).qualifier) (packages_of l.excluding.index.now) alone) (take l.number-index l.numbers)

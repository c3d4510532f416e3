-- The lines of the packages of the numbers so far, and the numbers of all of them.
use Rattle.std.proofs.Common.{◌≡◌, ◌++◌, take}
use Rattle.std.specs.List.{flat_map}
use Rattle.deb_relation.specs.Environments.{environment_of}
use Rattle.deb_relation.specs.Views.{alternative_of}
use Rattle.deb_index.specs.Indexes.{packages_of}
use Rattle.deb_index.specs.Named.{numbers_of}
use Rattle.deb_index.specs.ShownVersions.{shown_by}
use Rattle.deb_index.specs.Why.{has_or_provides, package_reason}
use Rattle.deb_index.specs.Reports.{picked}
use Rattle.deb_index.proofs.why_lines.append_asked.Given as goal

abbrev pub invariant-loop-number : goal.invariant-loop-number
invariant-loop-number l = record {
  so_far : l.out.items ≡ l.initial.out.items ++ flat_map (package_reason (shown_by l.fn.versions) (environment_of l.environment) (alternative_of l.alternative)) (flat_map (picked (packages_of l.fn.versions.index.now)) (take l.number-index l.number-items));
  all : l.number-items ≡ numbers_of (has_or_provides (alternative_of l.alternative).name) (packages_of l.fn.versions.index.now);
}

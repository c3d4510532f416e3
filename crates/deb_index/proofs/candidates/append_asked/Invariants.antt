-- Those of the numbers so far whose packages meet the alternative.
use Rattle.std.proofs.Common.{◌≡◌, ◌++◌, take}
use Rattle.std.specs.List.{filter}
use Rattle.deb_relation.specs.Environments.{environment_of}
use Rattle.deb_relation.specs.Views.{alternative_of}
use Rattle.deb_index.specs.Indexes.{packages_of}
use Rattle.deb_index.specs.Meeting.{meets}
use Rattle.deb_index.specs.Named.{passes_at}
use Rattle.deb_index.proofs.candidates.append_asked.Given as goal

abbrev pub invariant-loop-number : goal.invariant-loop-number
invariant-loop-number l =
    l.numbers.items ≡ l.initial.numbers.items ++ filter (passes_at (meets (environment_of l.environment) (alternative_of l.alternative)) (packages_of l.index)) (take l.number-index l.candidates)

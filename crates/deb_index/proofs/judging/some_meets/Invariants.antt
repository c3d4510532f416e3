-- The numbers that are left are as many as matter.
use Rattle.std.proofs.Common.{◌≡◌, drop}
use Rattle.std.specs.List.{list_any}
use Rattle.deb_relation.specs.Environments.{environment_of}
use Rattle.deb_relation.specs.Views.{alternative_of}
use Rattle.deb_index.specs.Indexes.{packages_of}
use Rattle.deb_index.specs.Meeting.{meets}
use Rattle.deb_index.specs.Named.{passes_at}
use Rattle.deb_index.proofs.judging.some_meets.Given as goal

abbrev pub invariant-loop-number : goal.invariant-loop-number
invariant-loop-number l =
    list_any (passes_at (meets (environment_of l.environment) (alternative_of l.alternative)) (packages_of l.index)) (drop l.number-index l.candidates)
    ≡ list_any (passes_at (meets (environment_of l.environment) (alternative_of l.alternative)) (packages_of l.index)) l.candidates

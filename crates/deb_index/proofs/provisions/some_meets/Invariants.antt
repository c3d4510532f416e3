-- The entries that are left are as many as matter.
use Rattle.std.proofs.Common.{◌≡◌, drop}
use Rattle.std.specs.List.{list_any}
use Rattle.deb_relation.specs.Views.{alternative_of}
use Rattle.deb_index.specs.Entries.{provision_at}
use Rattle.deb_index.specs.Meeting.{provision_meets}
use Rattle.deb_index.proofs.provisions.some_meets.Given as goal

abbrev pub invariant-loop-entry : goal.invariant-loop-entry
invariant-loop-entry l =
    list_any (λ e. provision_meets (alternative_of l.alternative) (provision_at l.text e)) (drop l.entry-index l.entries)
    ≡ list_any (λ e. provision_meets (alternative_of l.alternative) (provision_at l.text e)) l.entries

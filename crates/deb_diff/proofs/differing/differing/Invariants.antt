-- The names so far were found, and the fields left are to be compared.
use Rattle.std.proofs.Common.{◌≡◌, ◌+◌, length, map}
use Rattle.deb_syntax.specs.Meaning.{Entries}
use Rattle.deb_control.specs.Canonical.{paragraph_text}
use Rattle.deb_diff.specs.Cuts.{AreCut}
use Rattle.deb_diff.specs.Merging.{Merges}
use Rattle.deb_diff.proofs.differing.differing.Given as goal

abbrev pub invariant-loop-step : goal.invariant-loop-step
invariant-loop-step l = (entries others : Entries) → AreCut entries → AreCut others → l.old ≡ paragraph_text entries → l.new ≡ paragraph_text others → Merges entries others (map (λ n. n.now) l.names.items) l.rest l.other_rest

abbrev pub decreases-loop-step : goal.decreases-loop-step
decreases-loop-step l = length l.rest + length l.other_rest

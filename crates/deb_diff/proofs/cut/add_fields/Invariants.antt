-- The fields so far are there, and the others are to come.
use Rattle.std.proofs.Common.{◌≡◌, length}
use Rattle.deb_syntax.specs.Meaning.{Entries}
use Rattle.deb_control.specs.Canonical.{paragraph_text}
use Rattle.deb_diff.specs.Cuts.{AreCut}
use Rattle.deb_diff.proofs.Cutting.{Adds}
use Rattle.deb_diff.proofs.cut.add_fields.Given as goal

abbrev pub invariant-loop-first : goal.invariant-loop-first
invariant-loop-first l = (entries : Entries) → AreCut entries → l.text ≡ paragraph_text entries → Adds l.initial.fields.entries entries l.rest l.fields.entries

abbrev pub decreases-loop-first : goal.decreases-loop-first
decreases-loop-first l = length l.rest

use Rattle.deb_version.proofs.Common.{◌≡◌, ◌++◌, length, parts_of, component_text, Extends}
use Rattle.deb_version.proofs.canonical.append_component.Given as goal

abbrev pub invariant-loop-out : goal.invariant-loop-out
invariant-loop-out l =
    record { written : l.out.items ++ component_text (parts_of l.rest) ≡ l.initial.out.items ++ component_text (parts_of l.component); begun : Extends l.initial.out.items l.out.items }

abbrev pub decreases-loop-out : goal.decreases-loop-out
decreases-loop-out l = length l.rest

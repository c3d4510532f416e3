use Rattle.deb_version.proofs.Common.{◌≡◌, ◌+◌, length, parts_of, component_text}
use Rattle.deb_version.proofs.canonical.component_len.Given as goal

abbrev pub invariant-loop-after : goal.invariant-loop-after
invariant-loop-after l = l.len + length (component_text (parts_of l.rest)) ≡ length (component_text (parts_of l.component))

abbrev pub decreases-loop-after : goal.decreases-loop-after
decreases-loop-after l = length l.rest

-- What is fed so far, and then what is left, is what the component feeds.
use Rattle.deb_version.proofs.Common.{◌≡◌, fold, length, component_writes, parts_of}
use Rattle.deb_version.proofs.hash.hash_component.Given as goal

abbrev pub invariant-loop-after : goal.invariant-loop-after
invariant-loop-after g l = fold g.H.Hasher.write l.state (component_writes (parts_of l.rest)) ≡ fold g.H.Hasher.write l.initial.state (component_writes (parts_of l.component))

abbrev pub decreases-loop-after : goal.decreases-loop-after
decreases-loop-after g l = length l.rest

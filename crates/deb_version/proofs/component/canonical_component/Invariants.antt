use Rattle.deb_version.proofs.Common.{◌≡◌, ◌≤◌, ◌+◌, length, prefix_len, is_revision_byte}
use Rattle.deb_version.specs.Fronts.{revision_front}
use Rattle.deb_version.proofs.CanonicalStates.{Follows, IsCanonical}
use Rattle.deb_version.proofs.component.canonical_component.Given as goal

-- the component is its own canonical text if what is left of it may follow
abbrev pub invariant-loop-byte : goal.invariant-loop-byte
invariant-loop-byte l = record {
  canonical : Follows l.state (revision_front l.rest) → IsCanonical (revision_front l.text);
  run : length l.text + prefix_len is_revision_byte l.rest ≡ length l.rest + prefix_len is_revision_byte l.text;
  within : length l.rest ≤ length l.text;
}

abbrev pub decreases-loop-byte : goal.decreases-loop-byte
decreases-loop-byte l = length l.rest

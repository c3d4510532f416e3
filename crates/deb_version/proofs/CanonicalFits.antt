-- The canonical text of a version whose spelling is short is short.
use Rattle.deb_version.proofs.Common.{◌≡◌, ◌+◌, ◌*◌, ◌^◌, ◌<◌, ◌≤◌, true, length, refl, ◌++◌, arith, length-append, Meaning, Components, spelling, epoch_text, revision_text, meaning_of_components, are_components, component_text, canonical_epoch, canonical_revision, version_text}
use Rattle.deb_version.proofs.CanonicalTexts.{canonical_text_is_short}

pub length-version_text : (m : Meaning) → length (version_text m) ≡ length (epoch_text (canonical_epoch m)) + (length (component_text m.upstream) + length (revision_text (canonical_revision m)))
length-version_text m =
    let front = length-append (epoch_text (canonical_epoch m)) (component_text m.upstream ++ revision_text (canonical_revision m)) in
    let back = length-append (component_text m.upstream) (revision_text (canonical_revision m)) in
    omega (arith, front, back)

-- The canonical text of allowed components is at most twice as long as their spelling.
pub length-canonical : (c : Components) → are_components c ≡ true → length (version_text (meaning_of_components c)) ≤ 2 * length (spelling c)
length-canonical c allowed =
    canonical_text_is_short (spelling c) (meaning_of_components c) (record { components = c; spelt = refl; allowed = allowed; means = refl })

-- Allowed components of fewer than 2 ^ 63 bytes have canonical text of fewer than 2 ^ 64.
pub canonical_fits : (c : Components) → are_components c ≡ true → length (spelling c) < 2 ^ 63 → length (version_text (meaning_of_components c)) < 2 ^ 64
canonical_fits c allowed short = let twice = length-canonical c allowed in omega (arith, twice, short)

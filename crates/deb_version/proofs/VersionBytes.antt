-- Each byte of a version is one that an upstream version may hold after an epoch.
use Rattle.deb_version.proofs.Common.{◌≡◌, ℕ, ◌==◌, ◌&&◌, ◌||◌, Bool, true, false, List, ◌∷◌, [], ◌++◌, Option, Some, None, is_some, IfSome, refl, sym, ap, subst, IsTrue, is_ascii_digit, AllByRecursion, false≢true, Meaning, is_revision_byte, is_upstream_byte, epoch_text, revision_text, spelling, Components, are_components, SpellsVersion}
use Rattle.std.specs.Int.{is_in_range}
use Rattle.deb_version.proofs.AllowedLemmas.{IsEpoch, IsRevision, are_components-fact}
use Rattle.deb_version.proofs.CanonicalComponent.{All-append, All-weaker}

pub revision_digit : (b : ℕ) → IsTrue (is_ascii_digit b) → IsTrue (is_revision_byte b)
revision_digit b d = ap (λ v. ((v || is_in_range 65 90 b) || is_in_range 97 122 b) || (b == 43) || (b == 46) || (b == 126)) d

pub upstream_digit : (has_epoch : Bool) (b : ℕ) → IsTrue (is_ascii_digit b) → IsTrue (is_upstream_byte has_epoch b)
upstream_digit has_epoch b d = ap (λ v. v || (b == 45) || (has_epoch && (b == 58))) (revision_digit b d)

-- an upstream byte may be where there is an epoch
pub or_more : (x y z : Bool) → (y ≡ true → z ≡ true) → (x || y) ≡ true → (x || z) ≡ true
or_more true y z more h = refl
or_more false y z more h = more h

pub upstream_with_epoch : (has_epoch : Bool) (b : ℕ) → IsTrue (is_upstream_byte has_epoch b) → IsTrue (is_upstream_byte true b)
upstream_with_epoch true b h = h
upstream_with_epoch false b h = or_more (is_revision_byte b || (b == 45)) false (b == 58) (λ e. absurd (false≢true e)) h

abbrev pub is_version_byte : ℕ → Bool
is_version_byte b = is_upstream_byte true b

abbrev pub AreVersionBytes : List ℕ → Type 0
AreVersionBytes text = AllByRecursion (λ b. IsTrue (is_version_byte b)) text

revision_version : (b : ℕ) → IsTrue (is_revision_byte b) → IsTrue (is_version_byte b)
revision_version b is = ap (λ v. v || (b == 45) || (true && (b == 58))) is

of_epoch : (epoch : Option (List ℕ)) → IfSome epoch IsEpoch → AreVersionBytes (epoch_text epoch)
of_epoch None h = tt
of_epoch (Some digits) h = All-append _ digits (58 ∷ []) (All-weaker _ _ (upstream_digit true) digits h.1) (refl, tt)

of_revision : (revision : Option (List ℕ)) → IfSome revision IsRevision → AreVersionBytes (revision_text revision)
of_revision None h = tt
of_revision (Some bytes) h = (refl, All-weaker _ _ revision_version bytes h.1)

of_components : (c : Components) → IsTrue (are_components c) → AreVersionBytes (spelling c)
of_components c allowed =
    let are = are_components-fact c allowed in
    All-append _ (epoch_text c.epoch) (c.upstream ++ revision_text c.revision) (of_epoch c.epoch are.epoch)
    (All-append _ c.upstream (revision_text c.revision) (All-weaker _ _ (upstream_with_epoch (is_some c.epoch)) c.upstream are.upstream_bytes) (of_revision c.revision are.revision))

pub version_bytes : (text : List ℕ) (m : Meaning) → SpellsVersion text m → AreVersionBytes text
version_bytes text m spells = subst AreVersionBytes (sym spells.spelt) (of_components spells.components spells.allowed)

-- Canonical versions made of canonical components.
use Rattle.deb_version.proofs.Common.{◌≡◌, ◌≢◌, ℕ, ◌==◌, ◌&&◌, ◌||◌, true, false, not, cond, List, [], ◌∷◌, ◌++◌, Some, None, refl, sym, ap, ◌∙◌, subst, IsTrue, AllByRecursion, append-nil, append_assoc, ne_eqb, list_any, before_first, is_some, value_of, IsDigits, parts_of, Components, components_with, SpellsVersion, is_revision_byte, is_upstream_byte, epoch_text, revision_text, spelling, meaning_of_components, digits_of, component_text, is_no_revision, holds_colon, canonical_epoch, canonical_components, version_text, components_in, epoch_in, is_colon, version_in, has_parts}
use Rattle.deb_version.specs.Faults.{first_fault}
use Rattle.deb_version.proofs.AllowedLemmas.{AreComponents, are_components-fact, are_components-test}
use Rattle.deb_version.proofs.ByteLemmas.{none_equal, none_equal-fact}
use Rattle.deb_version.proofs.CanonicalComponent.{All-weaker, component_text-some}
use Rattle.deb_version.proofs.CanonicalCuts.{number_left}
use Rattle.deb_version.proofs.CanonicalTexts.{canonical_allowed, epoch_none, revision_none}
use Rattle.deb_version.proofs.CanonicalWritten.{revision_written}
use Rattle.deb_version.proofs.ComponentsLemmas.{components_in-spelling, spelling-components_in}
use Rattle.deb_version.proofs.FaultLemmas.{no_fault-from_spells, spells-from_no_fault}
use Rattle.deb_version.proofs.KeptVersions.{version_in-spelled}
use Rattle.deb_version.proofs.MeaningLemmas.{spelled_components}
use Rattle.deb_version.proofs.VersionBytes.{upstream_with_epoch}

-- a text is a version that is its own canonical text
pub record IsItself (text : List ℕ) : Type 0 where
  pub faultless : first_fault text ≡ None
  pub canonical : version_text (version_in text) ≡ text

-- So are the components that are those of their canonical text, joined.
itself : (c : Components) → AreComponents c → canonical_components (meaning_of_components c) ≡ c → IsItself (spelling c)
itself c are same =
    let spells : SpellsVersion (spelling c) (meaning_of_components c) = record { components = c; spelt = refl; allowed = are_components-test c are; means = refl } in
    record {
      faultless = no_fault-from_spells (spelling c) (meaning_of_components c) spells;
      canonical = ap version_text (version_in-spelled (spelling c) (meaning_of_components c) spells) ∙ ap spelling same;
    }

-- bytes of a revision that are their own canonical text
pub record IsComponent (bytes : List ℕ) : Type 0 where
  pub allowed : AllByRecursion (λ b. IsTrue (is_revision_byte b)) bytes
  pub canonical : component_text (parts_of bytes) ≡ bytes

component_some : (bytes : List ℕ) → IsComponent bytes → bytes ≢ []
component_some bytes is = subst (λ l. l ≢ []) is.canonical (component_text-some bytes (parts_of bytes) (has_parts bytes))

pub upstream_bytes : (b : ℕ) → IsTrue (is_revision_byte b) → IsTrue (is_upstream_byte false b)
upstream_bytes b is = ap (λ v. v || (b == 45) || (false && (b == 58))) is

-- the canonical text of such bytes has no colon and no hyphen
none_of : (n : ℕ) → is_revision_byte n ≡ false → (bytes : List ℕ) → IsComponent bytes → list_any (λ b. b == n) (component_text (parts_of bytes)) ≡ false
none_of n other bytes is = ap (list_any (λ b. b == n)) is.canonical ∙ none_equal is_revision_byte n other bytes is.allowed

module _ (upstream : List ℕ) (is : IsComponent upstream) where
  -- An upstream version alone is canonical.
  pub upstream_itself : IsItself upstream
  upstream_itself =
      let c = components_with None upstream None in
      let m = meaning_of_components c in
      let epoch = epoch_none m refl (none_of 58 refl upstream is) in
      let revision = revision_none m refl (none_of 45 refl upstream is) in
      subst IsItself (append-nil upstream)
      (itself c
      (record {
        epoch = tt;
        upstream_some = component_some upstream is;
        upstream_bytes = All-weaker (λ b. IsTrue (is_revision_byte b)) (λ b. IsTrue (is_upstream_byte false b)) upstream_bytes upstream is.allowed;
        upstream_hyphen = none_equal-fact 45 upstream (none_equal is_revision_byte 45 refl upstream is.allowed);
        revision = tt;
      }) (λ i. record { epoch = epoch i; upstream = is.canonical i; revision = revision i }))

  -- So is an upstream version with a revision that isn't 0.
  pub revision_itself : (revision : List ℕ) → IsComponent revision → is_no_revision (parts_of revision) ≡ false → IsItself (upstream ++ 45 ∷ revision)
  revision_itself revision is_revision some =
      let c = components_with None upstream (Some revision) in
      let m = meaning_of_components c in
      let epoch = epoch_none m refl (none_of 58 refl upstream is) in
      let written = sym (revision_written c revision refl some) ∙ ap Some is_revision.canonical in
      itself c
      (record {
        epoch = tt;
        upstream_some = component_some upstream is;
        upstream_bytes = All-weaker (λ b. IsTrue (is_revision_byte b)) (λ b. IsTrue (is_upstream_byte false b)) upstream_bytes upstream is.allowed;
        upstream_hyphen = tt;
        revision = (component_some revision is_revision, is_revision.allowed);
      }) (λ i. record { epoch = epoch i; upstream = is.canonical i; revision = written i })

-- digits that don't begin with a zero are a number above 0 in canonical digits
epoch_number : (epoch : List ℕ) → IsDigits epoch → epoch ≢ [] → ((rest : List ℕ) → epoch ≢ 48 ∷ rest) → (epoch ≡ digits_of (value_of epoch)) × ((value_of epoch == 0) ≡ false)
epoch_number [] digits some other = absurd (some refl)
epoch_number (b ∷ epoch) digits some other = number_left (b ∷ epoch) digits (ap not (ne_eqb b 48 (λ e. other epoch (ap (λ c. c ∷ epoch) e)))) some

itself_some : (text : List ℕ) → IsItself text → text ≢ []
unfolding first_fault
itself_some text is e = cc (sym (ap first_fault e) ∙ is.faultless)

-- So is a version without colon after an epoch of such digits.
pub epoch_itself : (epoch rest : List ℕ) → IsItself epoch → IsDigits epoch → ((l : List ℕ) → epoch ≢ 48 ∷ l)
    → IsItself rest → AllByRecursion (λ b. IsTrue (is_upstream_byte false b)) rest → IsItself (epoch ++ 58 ∷ rest)
epoch_itself epoch rest is_epoch digits other is bytes =
    let m = version_in rest in
    let some = itself_some epoch is_epoch in
    let number = epoch_number epoch digits some other in
    let spells = spells-from_no_fault rest is.faultless in
    let own : canonical_components m ≡ components_in rest = sym (components_in-spelling (canonical_components m) (canonical_allowed rest m spells)) ∙ ap components_in is.canonical in
    let are = are_components-fact (components_in rest) (spelled_components rest m spells).0 in
    let c = components_with (Some epoch) (components_in rest).upstream (components_in rest).revision in
    let written : canonical_epoch (meaning_of_components c) ≡ Some epoch =
    ap (λ v. cond (v && not (holds_colon (component_text (parts_of c.upstream)))) None (Some (digits_of (value_of epoch)))) number.1 ∙ ap Some (sym number.0) in
    let no_epoch : epoch_in rest ≡ None = ap (λ v. cond v (Some (before_first is_colon rest)) None) (none_equal (is_upstream_byte false) 58 refl rest bytes) in
    let joined : c.upstream ++ revision_text c.revision ≡ rest = ap (λ o. epoch_text o ++ (c.upstream ++ revision_text c.revision)) (sym no_epoch) ∙ spelling-components_in rest in
    subst IsItself (append_assoc epoch (58 ∷ []) (c.upstream ++ revision_text c.revision) ∙ ap (λ l. epoch ++ 58 ∷ l) joined)
    (itself c
    (record {
      epoch = (some, digits);
      upstream_some = are.upstream_some;
      upstream_bytes = All-weaker (λ b. IsTrue (is_upstream_byte (is_some (components_in rest).epoch) b)) (λ b. IsTrue (is_upstream_byte true b)) (upstream_with_epoch (is_some (components_in rest).epoch)) c.upstream are.upstream_bytes;
      upstream_hyphen = are.upstream_hyphen;
      revision = are.revision;
    }) (λ i. record { epoch = written i; upstream = (own i).upstream; revision = (own i).revision }))

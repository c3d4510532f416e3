-- The laws of canonical text.
use Rattle.deb_version.proofs.Common.{◌≡◌, ◌≢◌, ℕ, ◌*◌, ◌≤◌, ◌==◌, ◌&&◌, ◌||◌, Bool, true, false, not, cond, List, [], ◌∷◌, ◌++◌, length, Option, Some, None, is_some, IfSome, IfNone, refl, sym, ap, ◌∙◌, subst, arith, IsTrue, ◌⊎◌, inl, inr, is_ascii_digit, AllByRecursion, list_any, length-append, Decides-eqb, false≢true, eqb-true, not-true, Part, HasParts, Meaning, no_revision, is_revision_byte, is_upstream_byte, epoch_text, revision_text, epoch_value, revision_parts, meaning_of_components, are_components, Components, parts_of, SpellsVersion, digits_of, component_text, is_no_revision, holds_colon, holds_hyphen, canonical_epoch, canonical_revision, canonical_components, version_text, CanonicalTextSpells, CanonicalTextDecides, CanonicalTextStays, CanonicalTextIsShort, has_parts, one_parts}
use Rattle.deb_version.proofs.AllowedLemmas.{AreComponents, IsEpoch, IsRevision, are_components-fact, are_components-test}
use Rattle.deb_version.proofs.Choices.{left_or_written}
use Rattle.deb_version.proofs.Emptiness.{nil_of_length, some_length}
use Rattle.deb_version.proofs.ByteLemmas.{differs, none_equal-test, none_equal-fact}
use Rattle.deb_version.proofs.CanonicalDigits.{value_of-digits_of, IsDigits-digits_of, digits_of-some, length-digits_of-value_of}
use Rattle.deb_version.proofs.CanonicalComponent.{HasParts-component_text, All-weaker, All-component_text, component_text-some, length-component_text}
use Rattle.deb_version.proofs.MeaningLemmas.{one_version}
use Rattle.deb_version.proofs.VersionBytes.{revision_digit, upstream_digit, or_more, upstream_with_epoch}

-- an upstream byte that is no colon may be where there is no epoch
upstream_without_epoch : (b : ℕ) → IsTrue (is_upstream_byte true b) × (b ≢ 58) → IsTrue (is_upstream_byte false b)
upstream_without_epoch b h = or_more (is_revision_byte b || (b == 45)) (b == 58) false (λ e. absurd (h.1 ((Decides-eqb b 58).0 e))) h.0

both : (P Q : ℕ → Type 0) (xs : List ℕ) → AllByRecursion P xs → AllByRecursion Q xs → AllByRecursion (λ b. P b × Q b) xs
both P Q [] p q = tt
both P Q (x ∷ xs) p q = ((p.0, q.0), both P Q xs p.1 q.1)

-- the epoch is left out, or written; and so is the revision
epoch_cases : (m : Meaning)
    → (((m.epoch == 0) ≡ true) × (not (holds_colon (component_text m.upstream)) ≡ true) × (canonical_epoch m ≡ None)) ⊎ (canonical_epoch m ≡ Some (digits_of m.epoch))
epoch_cases m = left_or_written (m.epoch == 0) (not (holds_colon (component_text m.upstream))) None (Some (digits_of m.epoch))

revision_cases : (m : Meaning)
    → ((is_no_revision m.revision ≡ true) × (not (holds_hyphen (component_text m.upstream)) ≡ true) × (canonical_revision m ≡ None)) ⊎ (canonical_revision m ≡ Some (component_text m.revision))
revision_cases m = left_or_written (is_no_revision m.revision) (not (holds_hyphen (component_text m.upstream))) None (Some (component_text m.revision))

no_revision_of_test : (parts : List Part) → is_no_revision parts ≡ true → parts ≡ no_revision
no_revision_of_test [] e = absurd (false≢true e)
no_revision_of_test (part ∷ []) e =
    elim (length part.0 == 0) as (λ v. (length part.0 == 0) ≡ v → (v && (part.1 == 0)) ≡ true → part ∷ [] ≡ no_revision) [
      | true ↦ λ h k. let text = nil_of_length part.0 h in let number = (Decides-eqb part.1 0).0 k in ap (λ t. (t, part.1) ∷ []) text ∙ ap (λ n. ([], n) ∷ []) number
      | false ↦ λ h k. absurd (false≢true k)
    ] refl e
no_revision_of_test (part ∷ next ∷ parts) e = absurd (false≢true e)

-- a text that has the parts of the revision, of bytes that a revision may hold
revision_spelt : (o : Option (List ℕ)) (parts : List Part) → IfSome o IsRevision → parts ≡ revision_parts o
    → (text : List ℕ) × HasParts text parts × AllByRecursion (λ b. IsTrue (is_revision_byte b)) text
revision_spelt None parts allowed means = ([], subst (λ p. HasParts [] p) (sym means) (has_parts []), tt)
revision_spelt (Some revision) parts allowed means = (revision, subst (λ p. HasParts revision p) (sym means) (has_parts revision), allowed.1)

-- what a spelled version means, and the bytes of its components
module _ (text : List ℕ) (m : Meaning) (spells : SpellsVersion text m) where
  are : AreComponents spells.components
  are = are_components-fact spells.components spells.allowed

  upstream_means : HasParts spells.components.upstream m.upstream
  upstream_means = subst (λ p. HasParts spells.components.upstream p) (sym (ap (λ (n : Meaning). n.upstream) spells.means)) (has_parts spells.components.upstream)

  epoch_means : (o : Option (List ℕ)) → spells.components.epoch ≡ o → m.epoch ≡ epoch_value o
  epoch_means o e = ap (λ (n : Meaning). n.epoch) spells.means ∙ ap epoch_value e

  revision_means : (o : Option (List ℕ)) → spells.components.revision ≡ o → m.revision ≡ revision_parts o
  revision_means o e = ap (λ (n : Meaning). n.revision) spells.means ∙ ap revision_parts e

-- the epoch of canonical components is allowed, allows the bytes after it, and has the same value
abbrev EpochStays : Meaning → Option (List ℕ) → Type 0
EpochStays m o =
    IfSome o IsEpoch × AllByRecursion (λ b. IsTrue (is_upstream_byte (is_some o) b)) (component_text m.upstream) × (m.epoch ≡ epoch_value o)

-- the revision is allowed, and absent only where there is no hyphen, and has the same parts
abbrev RevisionStays : Meaning → Option (List ℕ) → Type 0
RevisionStays m o = IfSome o IsRevision × IfNone o (AllByRecursion (λ b. b ≢ 45) (component_text m.upstream)) × (m.revision ≡ revision_parts o)

module _ (text : List ℕ) (m : Meaning) (spells : SpellsVersion text m) where
  upstream_bytes_with_epoch : AllByRecursion (λ b. IsTrue (is_upstream_byte true b)) (component_text m.upstream)
  upstream_bytes_with_epoch =
      All-component_text (λ b. IsTrue (is_upstream_byte true b)) (upstream_digit true) spells.components.upstream m.upstream (upstream_means text m spells)
      (All-weaker (λ b. IsTrue (is_upstream_byte (is_some spells.components.epoch) b)) (λ b. IsTrue (is_upstream_byte true b)) (upstream_with_epoch (is_some spells.components.epoch)) spells.components.upstream (are text m spells).upstream_bytes)

  epoch_stays : EpochStays m (canonical_epoch m)
  epoch_stays =
      elim (epoch_cases m) [
        | inl out ↦ subst (EpochStays m) (sym out.2) (
          tt,
          All-weaker (λ b. IsTrue (is_upstream_byte true b) × (b ≢ 58)) (λ b. IsTrue (is_upstream_byte false b)) upstream_without_epoch (component_text m.upstream)
              (both (λ b. IsTrue (is_upstream_byte true b)) (λ b. b ≢ 58) (component_text m.upstream) upstream_bytes_with_epoch (none_equal-fact 58 (component_text m.upstream) (not-true _ out.1))),
          eqb-true m.epoch 0 out.0,
        )
        | inr written ↦ subst (EpochStays m) (sym written) ((digits_of-some m.epoch, IsDigits-digits_of m.epoch), upstream_bytes_with_epoch, sym (value_of-digits_of m.epoch))
      ]

  revision_stays : RevisionStays m (canonical_revision m)
  revision_stays =
      let spelt = revision_spelt spells.components.revision m.revision (are text m spells).revision (revision_means text m spells spells.components.revision refl) in
      elim (revision_cases m) [
        | inl out ↦ subst (RevisionStays m) (sym out.2) (tt, none_equal-fact 45 (component_text m.upstream) (not-true _ out.1), no_revision_of_test m.revision out.0)
        | inr written ↦ subst (RevisionStays m) (sym written) (
          (component_text-some spelt.0 m.revision spelt.1, All-component_text (λ b. IsTrue (is_revision_byte b)) revision_digit spelt.0 m.revision spelt.1 spelt.2),
          tt,
          one_parts (component_text m.revision) m.revision (HasParts-component_text spelt.0 m.revision spelt.1),
        )
      ]

  meaning_stays : m ≡ meaning_of_components (canonical_components m)
  meaning_stays =
      let upstream = one_parts (component_text m.upstream) m.upstream (HasParts-component_text spells.components.upstream m.upstream (upstream_means text m spells)) in
      λ i. record { epoch = epoch_stays.2 i; upstream = upstream i; revision = revision_stays.2 i }

-- Canonical text is accepted, with the same meaning.
pub canonical_allowed : (text : List ℕ) (m : Meaning) → SpellsVersion text m → are_components (canonical_components m) ≡ true
canonical_allowed text m spells = are_components-test (canonical_components m) (record {
  epoch = (epoch_stays text m spells).0;
  upstream_some = component_text-some spells.components.upstream m.upstream (upstream_means text m spells);
  upstream_bytes = (epoch_stays text m spells).1;
  upstream_hyphen = (revision_stays text m spells).1;
  revision = (revision_stays text m spells).0;
})

pub canonical_text_spells : CanonicalTextSpells
canonical_text_spells text m spells = record {
  components = canonical_components m;
  spelt = refl;
  allowed = canonical_allowed text m spells;
  means = meaning_stays text m spells;
}

pub canonical_text_decides : CanonicalTextDecides
canonical_text_decides s t m n spells_m spells_n = (
  λ e. one_version (version_text m) m n (canonical_text_spells s m spells_m) (subst (λ u. SpellsVersion u n) (sym e) (canonical_text_spells t n spells_n)),
  λ e. ap version_text e,
)

pub canonical_text_stays : CanonicalTextStays
canonical_text_stays text m n spells spells_n =
    ap version_text (one_version (version_text m) n m spells_n (canonical_text_spells text m spells))

-- an absent epoch stays absent, and so does an absent revision
pub epoch_none : (m : Meaning) → m.epoch ≡ 0 → holds_colon (component_text m.upstream) ≡ false → canonical_epoch m ≡ None
epoch_none m zero_is none =
    ap (λ e. cond ((e == 0) && not (holds_colon (component_text m.upstream))) None (Some (digits_of e))) zero_is ∙ ap (λ v. cond (not v) None (Some (digits_of 0))) none

pub revision_none : (m : Meaning) → m.revision ≡ no_revision → holds_hyphen (component_text m.upstream) ≡ false → canonical_revision m ≡ None
revision_none m none_is none =
    ap (λ r. cond (is_no_revision r && not (holds_hyphen (component_text m.upstream))) None (Some (component_text r))) none_is
    ∙ ap (λ v. cond (not v) None (Some (component_text no_revision))) none

-- without a colon in the upstream version its canonical text has none, and so without a hyphen
no_colon : (has_epoch : Bool) (b : ℕ) → has_epoch ≡ false → IsTrue (is_upstream_byte has_epoch b) → b ≢ 58
no_colon has_epoch b absent allowed same = false≢true (ap (λ v. is_upstream_byte v 58) (sym absent) ∙ ap (is_upstream_byte has_epoch) (sym same) ∙ allowed)

component_without : (c : ℕ) (text : List ℕ) (parts : List Part) → is_ascii_digit c ≡ false → HasParts text parts → AllByRecursion (λ b. b ≢ c) text
    → list_any (λ b. b == c) (component_text parts) ≡ false
component_without c text parts other h all = none_equal-test c (component_text parts) (All-component_text (λ b. b ≢ c) (differs is_ascii_digit c other) text parts h all)

-- without an epoch none is written
pub unwritten_epoch : (c : Components) → are_components c ≡ true → c.epoch ≡ None → canonical_epoch (meaning_of_components c) ≡ None
unwritten_epoch c allowed none =
    let absent = ap is_some none in
    let bytes = All-weaker (λ b. IsTrue (is_upstream_byte (is_some c.epoch) b)) (λ b. b ≢ 58) (λ b. no_colon (is_some c.epoch) b absent) c.upstream (are_components-fact c allowed).upstream_bytes in
    epoch_none (meaning_of_components c) (ap epoch_value none) (component_without 58 c.upstream (parts_of c.upstream) refl (has_parts c.upstream) bytes)

-- the epoch of the canonical text isn't longer
module _ (text : List ℕ) (m : Meaning) (spells : SpellsVersion text m) where
  length-epoch : (o : Option (List ℕ)) → spells.components.epoch ≡ o → length (epoch_text (canonical_epoch m)) ≤ length (epoch_text o)
  length-epoch None e =
      let zero_is = epoch_means text m spells None e in
      let absent = ap is_some e in
      let bytes = All-weaker (λ b. IsTrue (is_upstream_byte (is_some spells.components.epoch) b)) (λ b. b ≢ 58) (λ b. no_colon (is_some spells.components.epoch) b absent) spells.components.upstream (are text m spells).upstream_bytes in
      let colon = component_without 58 spells.components.upstream m.upstream refl (upstream_means text m spells) bytes in
      omega (arith, ap (λ o. length (epoch_text o)) (epoch_none m zero_is colon))
  length-epoch (Some digits) e =
      let value = epoch_means text m spells (Some digits) e in
      let allowed = subst (λ o. IfSome o IsEpoch) e (are text m spells).epoch in
      let shorter = length-digits_of-value_of digits allowed.1 allowed.0 in
      let same = ap (λ n. length (digits_of n)) value in
      let colon_behind = length-append (digits_of m.epoch) (58 ∷ []) in
      let colon = length-append digits (58 ∷ []) in
      elim (epoch_cases m) [
        | inl out ↦ omega (arith, ap (λ o. length (epoch_text o)) out.2)
        | inr written ↦ omega (arith, shorter, same, colon_behind, colon, ap (λ o. length (epoch_text o)) written)
      ]

  length-revision : (o : Option (List ℕ)) → spells.components.revision ≡ o → length (revision_text (canonical_revision m)) ≤ 2 * length (revision_text o)
  length-revision None e =
      let none_is = revision_means text m spells None e in
      let bytes = subst (λ o. IfNone o (AllByRecursion (λ b. b ≢ 45) spells.components.upstream)) e (are text m spells).upstream_hyphen in
      let hyphen = component_without 45 spells.components.upstream m.upstream refl (upstream_means text m spells) bytes in
      omega (arith, ap (λ o. length (revision_text o)) (revision_none m none_is hyphen))
  length-revision (Some revision) e =
      let means = subst (λ p. HasParts revision p) (sym (revision_means text m spells (Some revision) e)) (has_parts revision) in
      let short = length-component_text revision m.revision means in
      elim (revision_cases m) [
        | inl out ↦ omega (arith, ap (λ o. length (revision_text o)) out.2)
        | inr written ↦ omega (arith, short, ap (λ o. length (revision_text o)) written)
      ]

pub canonical_text_is_short : CanonicalTextIsShort
canonical_text_is_short text m spells =
    let c = spells.components in
    let epoch = length-epoch text m spells c.epoch refl in
    let upstream = length-component_text c.upstream m.upstream (upstream_means text m spells) in
    let some = some_length c.upstream (are text m spells).upstream_some in
    let revision = length-revision text m spells c.revision refl in
    let spelt = ap length spells.spelt in
    let spelt_front = length-append (epoch_text c.epoch) (c.upstream ++ revision_text c.revision) in
    let spelt_back = length-append c.upstream (revision_text c.revision) in
    let front = length-append (epoch_text (canonical_epoch m)) (component_text m.upstream ++ revision_text (canonical_revision m)) in
    let back = length-append (component_text m.upstream) (revision_text (canonical_revision m)) in
    omega (arith, epoch, upstream, some, revision, spelt, spelt_front, spelt_back, front, back)

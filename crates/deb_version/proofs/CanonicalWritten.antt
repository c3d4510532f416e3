-- Where canonical text has an epoch and a revision, by the texts of the components.
use Rattle.deb_version.proofs.Common.{◌≡◌, ℕ, ◌==◌, ◌&&◌, Bool, true, false, not, cond, List, [], ◌∷◌, length, Option, Some, None, IfSome, Bor, refl, sym, ap, ◌∙◌, unwrap_or, list_any, value_of, IsDigits, parts_of, Components, epoch_value, revision_parts, meaning_of_components, are_components, digits_of, component_text, is_no_revision, holds_colon, holds_hyphen, canonical_epoch, canonical_revision}
use Rattle.std.specs.Option.{option_copied}
use Rattle.deb_version.proofs.AllowedLemmas.{IsEpoch, are_components-fact}
use Rattle.deb_version.proofs.ByteLemmas.{empty-fact}
use Rattle.deb_version.proofs.Emptiness.{nil_of_length}
use Rattle.deb_version.proofs.LeadingZeros.{without_zeros}
use Rattle.deb_version.proofs.CanonicalCuts.{without_zeros-none, without_zeros-some, positive_of_digits, list_any-component_text}

-- an absent epoch or revision is a zero
abbrev pub or_zero : Option (List ℕ) → List ℕ
or_zero o = unwrap_or o (48 ∷ [])

pub or_zero-now : (o : Option (Bor (List ℕ))) (zero : Bor (List ℕ)) → zero.now ≡ 48 ∷ [] → (unwrap_or o zero).now ≡ or_zero (option_copied o)
or_zero-now None zero e = e
or_zero-now (Some x) zero e = refl

epoch_value-or_zero : (o : Option (List ℕ)) → epoch_value o ≡ value_of (or_zero o)
epoch_value-or_zero None = refl
epoch_value-or_zero (Some digits) = refl

revision_parts-or_zero : (o : Option (List ℕ)) → revision_parts o ≡ parts_of (or_zero o)
revision_parts-or_zero None = refl
revision_parts-or_zero (Some revision) = refl

-- the epoch of allowed components has digits alone
pub IsDigits-epoch : (c : Components) → are_components c ≡ true → IsDigits (or_zero c.epoch)
IsDigits-epoch c allowed = of_epoch c.epoch (are_components-fact c allowed).epoch
  where
    of_epoch : (o : Option (List ℕ)) → IfSome o IsEpoch → IsDigits (or_zero o)
    of_epoch None h = (refl, tt)
    of_epoch (Some digits) h = h.1

module _ (c : Components) (left : List ℕ) (is : left ≡ without_zeros (or_zero c.epoch)) where
  -- digits are left: the epoch isn't 0
  pub epoch_written : are_components c ≡ true → (length left == 0) ≡ false → Some left ≡ canonical_epoch (meaning_of_components c)
  epoch_written allowed e =
      let digits = IsDigits-epoch c allowed in
      let some = λ (h : without_zeros (or_zero c.epoch) ≡ []). empty-fact left e (is ∙ h) in
      let positive = ap (λ n. n == 0) (epoch_value-or_zero c.epoch) ∙ positive_of_digits (or_zero c.epoch) digits some in
      ap Some (is ∙ without_zeros-some (or_zero c.epoch) digits some ∙ ap digits_of (sym (epoch_value-or_zero c.epoch)))
      ∙ ap (λ v. cond (v && not (holds_colon (component_text (parts_of c.upstream)))) None (Some (digits_of (epoch_value c.epoch)))) (sym positive)

  epoch_is_zero : (length left == 0) ≡ true → epoch_value c.epoch ≡ 0
  epoch_is_zero e = epoch_value-or_zero c.epoch ∙ without_zeros-none (or_zero c.epoch) (sym is ∙ nil_of_length left e)

  canonical_epoch_at_zero : (length left == 0) ≡ true → (colon : Bool) → list_any (λ b. b == 58) c.upstream ≡ colon → canonical_epoch (meaning_of_components c) ≡ cond (not colon) None (Some (48 ∷ []))
  canonical_epoch_at_zero e colon h =
      ap (λ n. cond ((n == 0) && not (holds_colon (component_text (parts_of c.upstream)))) None (Some (digits_of n))) (epoch_is_zero e)
      ∙ ap (λ v. cond (not v) None (Some (48 ∷ []))) (list_any-component_text 58 c.upstream refl ∙ h)

  -- nothing is left: the epoch is 0, and is written only for a colon
  pub epoch_for_colon : (length left == 0) ≡ true → list_any (λ b. b == 58) c.upstream ≡ true → Some (48 ∷ []) ≡ canonical_epoch (meaning_of_components c)
  epoch_for_colon e h = sym (canonical_epoch_at_zero e true h)

  pub epoch_left_out : (length left == 0) ≡ true → list_any (λ b. b == 58) c.upstream ≡ false → None ≡ canonical_epoch (meaning_of_components c)
  epoch_left_out e h = sym (canonical_epoch_at_zero e false h)

module _ (c : Components) (revision : List ℕ) (is : revision ≡ or_zero c.revision) where
  revision_parts_is : revision_parts c.revision ≡ parts_of revision
  revision_parts_is = revision_parts-or_zero c.revision ∙ ap parts_of (sym is)

  canonical_revision_is : (none hyphen : Bool) → is_no_revision (parts_of revision) ≡ none → list_any (λ b. b == 45) c.upstream ≡ hyphen
      → canonical_revision (meaning_of_components c) ≡ cond (none && not hyphen) None (Some (component_text (parts_of revision)))
  canonical_revision_is none hyphen e h =
      ap (λ parts. cond (is_no_revision parts && not (holds_hyphen (component_text (parts_of c.upstream)))) None (Some (component_text parts))) revision_parts_is
      ∙ ap (λ v. cond (v && not (holds_hyphen (component_text (parts_of c.upstream)))) None (Some (component_text (parts_of revision)))) e
      ∙ ap (λ v. cond (none && not v) None (Some (component_text (parts_of revision)))) (list_any-component_text 45 c.upstream refl ∙ h)

  pub revision_left_out : is_no_revision (parts_of revision) ≡ true → list_any (λ b. b == 45) c.upstream ≡ false → None ≡ canonical_revision (meaning_of_components c)
  revision_left_out e h = sym (canonical_revision_is true false e h)

  pub revision_for_hyphen : is_no_revision (parts_of revision) ≡ true → list_any (λ b. b == 45) c.upstream ≡ true → Some (component_text (parts_of revision)) ≡ canonical_revision (meaning_of_components c)
  revision_for_hyphen e h = sym (canonical_revision_is true true e h)

  pub revision_written : is_no_revision (parts_of revision) ≡ false → Some (component_text (parts_of revision)) ≡ canonical_revision (meaning_of_components c)
  revision_written e = sym (canonical_revision_is false (list_any (λ b. b == 45) c.upstream) e refl)

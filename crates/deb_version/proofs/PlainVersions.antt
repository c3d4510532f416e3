-- Versions without an epoch and with at most one hyphen: the components that they are cut into are allowed.
use Rattle.deb_version.proofs.Common.{◌≡◌, ◌==◌, ◌≢◌, true, false, List, ◌++◌, ℕ, length, take, drop, take-append-drop, Option, Some, None, IfSome, IfNone, IsTrue, refl, sym, ap, ◌∙◌, AllByRecursion, Components, components_with, are_components, spelling, meaning_of_components, is_revision_byte, is_upstream_byte, components_in}
use Rattle.std.proofs.Common.{ap₂}
use Rattle.deb_version.specs.Faults.{first_fault}
use Rattle.deb_version.proofs.AllowedLemmas.{IsRevision, are_components-test}
use Rattle.deb_version.proofs.ByteLemmas.{empty-fact, none_equal, none_equal-fact}
use Rattle.deb_version.proofs.CanonicalComponent.{All-weaker}
use Rattle.deb_version.proofs.CanonicalPrefix.{upstream_bytes}
use Rattle.deb_version.proofs.ComponentsLemmas.{components_in-spelling}
use Rattle.deb_version.proofs.FaultLemmas.{no_fault-from_spells}

module _ (upstream : List ℕ) (some : (length upstream == 0) ≡ false) (bytes : AllByRecursion (λ b. IsTrue (is_revision_byte b)) upstream) where
  no_hyphen : (revision : Option (List ℕ)) → IfNone revision (AllByRecursion (λ b. b ≢ 45) upstream)
  no_hyphen None = none_equal-fact 45 upstream (none_equal is_revision_byte 45 refl upstream bytes)
  no_hyphen (Some revision) = tt

  pub plain_allowed : (revision : Option (List ℕ)) → IfSome revision IsRevision → are_components (components_with None upstream revision) ≡ true
  plain_allowed revision is = are_components-test (components_with None upstream revision) (record {
    epoch = tt;
    upstream_some = empty-fact upstream some;
    upstream_bytes = All-weaker (λ b. IsTrue (is_revision_byte b)) (λ b. IsTrue (is_upstream_byte false b)) upstream_bytes upstream bytes;
    upstream_hyphen = no_hyphen revision;
    revision = is;
  })

-- a text that is cut, and what its second part is
pub joined : (text front back : List ℕ) (n : ℕ) → front ≡ take n text → back ≡ drop n text → (behind : List ℕ) → back ≡ behind → text ≡ front ++ behind
joined text front back n is_front is_back behind is = sym (take-append-drop n text) ∙ ap₂ (λ xs ys. xs ++ ys) (sym is_front) (sym is_back ∙ is)

-- Components that are allowed are those of the text that they spell, which has no fault.
pub spelled_without_fault : (text : List ℕ) (c : Components) → are_components c ≡ true → text ≡ spelling c → (c ≡ components_in text) × (first_fault text ≡ None)
spelled_without_fault text c allowed spelt = (
  sym (ap components_in spelt ∙ components_in-spelling c allowed),
  no_fault-from_spells text (meaning_of_components c) (record { components = c; spelt = spelt; allowed = allowed; means = refl }),
)

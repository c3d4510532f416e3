-- A text has no fault exactly where it spells a version, and which is its first.
use Rattle.deb_version.proofs.Common.{◌≡◌, ◌≢◌, ℕ, Bool, true, false, List, Option, Some, None, refl, sym, ap, is_none, option_map, list_any, and_parts, and_from, UpstreamByte, RevisionByte, EpochTooBig, Meaning, SpellsVersion, is_empty, is_no_digit, first_of, epoch_faults, fault_of, is_cut_at_hyphen, meaning_of_components, rest_in, components_in}
use Rattle.deb_version.specs.Faults.{first_fault}
use Rattle.deb_version.specs.GrammarLaws.{EpochHasAnySize}
use Rattle.deb_version.proofs.AllowedLemmas.{by_tests, is_none-none}
use Rattle.deb_version.proofs.ComponentsLemmas.{cut_at_hyphen, spelling-components_in}
use Rattle.deb_version.proofs.MeaningLemmas.{spelled_components}

-- A text that spells a version has no fault, and one without fault spells the meaning of its components.
pub no_fault-from_spells : (text : List ℕ) (m : Meaning) → SpellsVersion text m → first_fault text ≡ None
unfolding first_fault
no_fault-from_spells text m s =
    let allowed = (spelled_components text m s).0 in
    is_none-none (fault_of (components_in text)) (and_parts (is_none (fault_of (components_in text))) (is_cut_at_hyphen (components_in text)) allowed).0

pub spells-from_no_fault : (text : List ℕ) → first_fault text ≡ None → SpellsVersion text (meaning_of_components (components_in text))
unfolding first_fault
spells-from_no_fault text none = record {
  components = components_in text;
  spelt = sym (spelling-components_in text);
  allowed = and_from _ _ (ap is_none none) (cut_at_hyphen (rest_in text));
  means = refl;
}

-- an epoch that is nonempty and has digits alone has no fault
pub epoch_allowed : (epoch : Option (List ℕ)) (digits : List ℕ) → epoch ≡ Some digits → is_empty digits ≡ false → list_any is_no_digit digits ≡ false → None ≡ first_of (epoch_faults epoch)
epoch_allowed epoch digits is some only = cc

-- An epoch is never too big.
never_too_big : (a b c d e : Bool) (n m : ℕ → ℕ) (o p : Option ℕ) → by_tests a b c d e (option_map (λ at. UpstreamByte (n at)) o) (option_map (λ at. RevisionByte (m at)) p) ≢ Some EpochTooBig
never_too_big true b c d e n m o p h = cc
never_too_big false true c d e n m o p h = cc
never_too_big false false true d e n m o p h = cc
never_too_big false false false true e n m o p h = cc
never_too_big false false false false true n m o p h = cc
never_too_big false false false false false n m (Some at) p h = cc
never_too_big false false false false false n m None (Some at) h = cc
never_too_big false false false false false n m None None h = cc

pub epoch_has_any_size : EpochHasAnySize
unfolding first_fault
epoch_has_any_size text = never_too_big _ _ _ _ _ _ _ _ _

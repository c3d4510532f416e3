-- What the components that are in a text without fault are: allowed, and those that spell it.
use Rattle.deb_version.proofs.Common.{◌≡◌, ◌<◌, ◌^◌, ℕ, List, Option, None, length, sym, ap, ◌∙◌, subst, true, BadVersion, Meaning, Components, SpellsVersion, spelling, meaning_of_components, are_components, fault_of, components_in}
use Rattle.deb_version.specs.Faults.{first_fault}
use Rattle.deb_version.proofs.ComponentsLemmas.{spelling-components_in}
use Rattle.deb_version.proofs.FaultLemmas.{spells-from_no_fault}
use Rattle.deb_version.proofs.MeaningLemmas.{spelled_components}

module _ (text : List ℕ) (c : Components) (stand : c ≡ components_in text) where
  pub fault_is : (fault : Option BadVersion) → fault ≡ fault_of c → first_fault text ≡ fault
  unfolding first_fault
  fault_is fault e = sym (e ∙ ap fault_of stand)

  pub spelling_is : text ≡ spelling c
  spelling_is = sym (ap spelling stand ∙ spelling-components_in text)

  pub short_spelling : length text < 2 ^ 63 → length (spelling c) < 2 ^ 63
  short_spelling short = subst (λ l. length l < 2 ^ 63) spelling_is short

  pub meaning_is : (m : Meaning) → SpellsVersion text m → meaning_of_components c ≡ m
  meaning_is m s = ap meaning_of_components stand ∙ sym (spelled_components text m s).1

  module _ (none : first_fault text ≡ None) where
    pub spells : SpellsVersion text (meaning_of_components c)
    spells = subst (λ d. SpellsVersion text (meaning_of_components d)) (sym stand) (spells-from_no_fault text none)

    pub allowed : are_components c ≡ true
    allowed = ap are_components stand ∙ (spelled_components text _ spells).0

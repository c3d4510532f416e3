-- A text spells at most one version.
use Rattle.deb_version.proofs.Common.{◌≡◌, ℕ, List, IsTrue, refl, sym, ap, ◌∙◌, subst, Version, Meaning, SpellsVersion, spelling, are_components, meaning_of_components, components_in, components_of, meaning_of}
use Rattle.deb_version.proofs.ComponentsLemmas.{components_in-spelling}

-- what a text spells, it spells by the components that are in it
pub spelled_components : (text : List ℕ) (m : Meaning) → SpellsVersion text m → IsTrue (are_components (components_in text)) × (m ≡ meaning_of_components (components_in text))
spelled_components text m s =
    let same = sym (components_in-spelling s.components s.allowed) ∙ ap components_in (sym s.spelt) in
    (subst (λ c. IsTrue (are_components c)) same s.allowed, s.means ∙ ap meaning_of_components same)

pub one_version : (text : List ℕ) (m n : Meaning) → SpellsVersion text m → SpellsVersion text n → m ≡ n
one_version text m n a b = (spelled_components text m a).1 ∙ sym (spelled_components text n b).1

-- Each `Version` spells a text, that of its components.
pub version_spelled : (v : Version) → SpellsVersion (spelling (components_of v)) (meaning_of v)
version_spelled v = record { components = components_of v; spelt = refl; allowed = v.well_formed; means = refl }

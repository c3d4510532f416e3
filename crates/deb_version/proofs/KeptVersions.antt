-- Versions that are kept as their canonical text.
use Rattle.deb_version.proofs.Common.{◌≡◌, ℕ, List, None, sym, ap, version_text, first_fault, SpellsVersion, spelling, Meaning, components_of, meaning_of, Version, version_in}
use Rattle.deb_version.proofs.CanonicalTexts.{canonical_text_spells}
use Rattle.deb_version.proofs.FaultLemmas.{no_fault-from_spells}
use Rattle.deb_version.proofs.MeaningLemmas.{spelled_components, version_spelled}

-- the version that a text spells is the one that is in it
pub version_in-spelled : (text : List ℕ) (m : Meaning) → SpellsVersion text m → version_in text ≡ m
version_in-spelled text m s = sym (spelled_components text m s).1

text-spells : (v : Version) → SpellsVersion (version_text (meaning_of v)) (meaning_of v)
text-spells v = canonical_text_spells (spelling (components_of v)) (meaning_of v) (version_spelled v)

-- the canonical text of a version is one, that of this version, and canonical
pub kept-faultless : (v : Version) → first_fault (version_text (meaning_of v)) ≡ None
kept-faultless v = no_fault-from_spells (version_text (meaning_of v)) (meaning_of v) (text-spells v)

pub kept-version : (v : Version) → version_in (version_text (meaning_of v)) ≡ meaning_of v
kept-version v = version_in-spelled (version_text (meaning_of v)) (meaning_of v) (text-spells v)

pub kept-canonical : (v : Version) → version_text (version_in (version_text (meaning_of v))) ≡ version_text (meaning_of v)
kept-canonical v = ap version_text (kept-version v)

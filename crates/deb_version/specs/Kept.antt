-- Versions that are kept as a text: what they mean, and what was kept.
use Rattle.std.specs.Prelude.{◌≡◌, ℕ, List, [], ◌∷◌, codes, refl}
use Rattle.deb_version.specs.declared.canonical_version.CanonicalVersion.{CanonicalVersion}
use Rattle.deb_version.specs.declared.version_text.VersionText.{VersionText}
use Rattle.deb_version.specs.Faults.{first_fault}
use Rattle.deb_version.specs.Parts.{Meaning, no_revision}
use Rattle.deb_version.specs.Places.{version_in}
use Rattle.deb_version.specs.Lent.{lent}
use Rattle.std.proofs.Common.{ap}

abbrev pub kept_version : CanonicalVersion → Meaning
kept_version v = version_in v.text.items

-- the text of a version that was checked
abbrev pub text_of : VersionText → List ℕ
text_of v = v.text.now

worked-kept : (v : CanonicalVersion) → v.text.items ≡ codes "2:1.0"
    → kept_version v
    ≡ record { epoch = 2; upstream = ([], 1) ∷ (codes ".", 0) ∷ []; revision = no_revision }
worked-kept v = ap version_in

-- as it is spelled
abbrev zeros : VersionText
unfolding first_fault
zeros = record { text = lent (codes "00:1.00-0"); faultless = refl }

worked-text : text_of zeros ≡ codes "00:1.00-0"
unfolding zeros
worked-text = refl

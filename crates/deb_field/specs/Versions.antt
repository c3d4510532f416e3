-- Versions as values of fields: deb_version defines what spells one. Debian Policy 5.6.12.
use Rattle.std.specs.Prelude.{◌≡◌, ℕ, Bool, true, false, List, [], Option, Some, None, codes, refl}
use Rattle.deb_base.specs.declared.code.Code.{Code}
use Rattle.deb_base.specs.declared.code.Code.TheVariants.{NotOneLine, BadVersion}
use Rattle.deb_version.specs.Faults.{first_fault}
use Rattle.deb_field.specs.OneLine.{line_refusal, refusal_unless}

abbrev pub is_none : {A : Type 0} → Option A → Bool
is_none None = true
is_none (Some _) = false

-- the text has none of the faults of a version
abbrev pub is_version : List ℕ → Bool
is_version text = is_none (first_fault text)

abbrev pub version_refusal : List ℕ → Option Code
version_refusal body = line_refusal body (refusal_unless (is_version body) BadVersion)

versions : (version_refusal (codes "1:2.0-1") ≡ None) × (version_refusal [] ≡ Some BadVersion)
    × (version_refusal (codes "1-") ≡ Some BadVersion)
    × (version_refusal (codes "1\n 2") ≡ Some NotOneLine)
unfolding first_fault
versions = (refl, refl, refl, refl)

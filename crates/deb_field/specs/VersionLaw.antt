-- Lemmas that the prover checks: nothing in this file needs to be believed.
--
-- The laws for versions, from those of deb_version.
use Rattle.std.proofs.Common.{◌≡◌, ℕ, true, List, Option, Some, None, refl, ap}
use Rattle.deb_version.specs.Parts.{Meaning}
use Rattle.deb_version.specs.Grammar.{SpellsVersion}
use Rattle.deb_version.specs.Canonical.{version_text}
use Rattle.deb_base.specs.declared.code.Code.TheVariants.{BadVersion}
use Rattle.deb_version.specs.Faults.{first_fault}
use Rattle.deb_version.specs.Places.{components_in}
use Rattle.deb_version.specs.Grammar.{meaning_of_components}
use Rattle.deb_version.proofs.FaultLemmas.{no_fault-from_spells, spells-from_no_fault}
use Rattle.deb_version.proofs.MeaningLemmas.{one_version}
pub use Rattle.deb_version.proofs.MeaningLemmas.{version_spelled}
use Rattle.deb_version.proofs.CanonicalTexts.{canonical_text_spells, canonical_text_is_short}
use Rattle.deb_base.specs.Bodies.{IsBody}
use Rattle.deb_field.specs.CanonLaw.{CanonLaw, RefusalLaw}
use Rattle.deb_field.specs.OneLine.{refusal_unless}
use Rattle.deb_field.specs.OneLineLaws.{one_line-graphic, passes-from_none, none-from_passes, line_refusal-parts, line_refusal-from}
use Rattle.deb_field.specs.Versions.{is_none, is_version, version_refusal}
use Rattle.deb_base.proofs.GraphicBodies.{IsBody-graphic}
use Rattle.deb_relation.proofs.Bytes.{version_graphic}

IsBody-version : (text : List ℕ) (m : Meaning) → SpellsVersion text m → IsBody text
IsBody-version text m spells = IsBody-graphic text (version_graphic text m spells)

pub version_law : CanonLaw Meaning SpellsVersion version_text
version_law = record {
  one_meaning = one_version;
  reads_back = λ body m s. canonical_text_spells body m s;
  is_body = λ body m is s. IsBody-version (version_text m) m (canonical_text_spells body m s);
  is_short = λ body m s. canonical_text_is_short body m s;
}

none-from_test : {A : Type 0} (o : Option A) → is_none o ≡ true → o ≡ None
none-from_test None h = refl
none-from_test (Some a) h = cc

-- a text without fault spells a version, and no other text does
pub version_from_test : (text : List ℕ) → is_version text ≡ true
    → (m : Meaning) × SpellsVersion text m
version_from_test text h = (
  meaning_of_components (components_in text),
  spells-from_no_fault text (none-from_test (first_fault text) h),
)

pub test_from_version : (text : List ℕ) (m : Meaning) → SpellsVersion text m
    → is_version text ≡ true
test_from_version text m s = ap is_none (no_fault-from_spells text m s)

pub version_refusals : RefusalLaw Meaning SpellsVersion version_refusal
version_refusals = record {
  spelled =
      λ body none. version_from_test body (passes-from_none (is_version body) BadVersion
      (line_refusal-parts body (refusal_unless (is_version body) BadVersion) none).1);
  unrefused =
      λ body m s. line_refusal-from body (refusal_unless (is_version body) BadVersion)
      (one_line-graphic body (version_graphic body m s))
      (none-from_passes (is_version body) BadVersion (test_from_version body m s));
}

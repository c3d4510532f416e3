-- The files that are accepted, and what they mean. Debian Policy 5.1; the limits are this project's
-- own.
use Rattle.std.specs.Prelude.{◌≡◌, ℕ, ◌≤◌, Bool, true, false, is_some, IsTrue, List, [], ◌∷◌, length, codes, refl}
use Rattle.std.specs.List.{AllByRecursion, list_all}
use Rattle.std.specs.FinMap.{find}
use Rattle.deb_base.specs.Bodies.{file_limit}
use Rattle.deb_base.specs.Names.{canonical_name}
use Rattle.deb_syntax.specs.Lines.{paragraphs_of}
use Rattle.deb_syntax.specs.Fields.{IsShort}
use Rattle.deb_syntax.specs.Meaning.{byte_order}
use Rattle.deb_control.specs.Rules.{Rules}
use Rattle.deb_control.specs.ValueFiles.{ValueEntries, MeansValues, values_text}

-- the paragraph has a value under each of the names
abbrev pub has_values : {V : Type 0} → List (List ℕ) → ValueEntries V → Bool
has_values names fields =
    list_all (λ name. is_some (find byte_order (canonical_name name) fields)) names

-- The file is accepted with this meaning, by the rules of a kind of document.
pub record IsAccepted (V : Type 0) (spells : List ℕ → List ℕ → V → Type 0) (text_of : V → List ℕ)
    (rules : Rules) (text : List ℕ) (meaning : List (ValueEntries V)) : Type 0 where
  pub short : length text ≤ file_limit
  pub paragraphs_short : AllByRecursion IsShort (paragraphs_of text)
  pub means : MeansValues V spells text meaning
  pub one : IsTrue rules.single → length meaning ≡ 1
  pub required : AllByRecursion (λ fields. IsTrue (has_values rules.required fields)) meaning
  pub canonical_short : length (values_text text_of meaning) ≤ file_limit
  pub canonical_paragraphs_short : AllByRecursion IsShort
      (paragraphs_of (values_text text_of meaning))

-- names without case, and another name
names_with_values : (has_values (codes "package" ∷ codes "VERSION" ∷ [])
    ((codes "Package", codes "aa") ∷ (codes "Version", codes "1") ∷ []) ≡ true)
    × (has_values (codes "Package" ∷ codes "Version" ∷ [])
    ((codes "Package", codes "aa") ∷ (codes "Versions", codes "1") ∷ []) ≡ false)
    × (has_values {V = ℕ} [] [] ≡ true) × (has_values {V = ℕ} (codes "A" ∷ []) [] ≡ false)
names_with_values = (refl, refl, refl, refl)

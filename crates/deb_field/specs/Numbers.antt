-- Numbers in decimal. Debian Policy 5.6.20 (Installed-Size).
use Rattle.std.specs.Prelude.{◌≡◌, ◌≢◌, ℕ, ◌==◌, ◌&&◌, not, Bool, List, [], length, Option, Some, None, codes, refl}
use Rattle.std.specs.Char.{is_ascii_digit}
use Rattle.std.specs.List.{list_all}
use Rattle.deb_base.specs.declared.code.Code.{Code}
use Rattle.deb_base.specs.declared.code.Code.TheVariants.{NotOneLine, BadNumber}
use Rattle.deb_version.specs.Parts.{IsDigits, value_of}
use Rattle.deb_version.specs.Canonical.{digits_of}
use Rattle.deb_field.specs.OneLine.{line_refusal, refusal_unless}

-- The body is one or more decimal digits, of this value.
pub record SpellsNumber (body : List ℕ) (n : ℕ) : Type 0 where
  pub some : body ≢ []
  pub digits : IsDigits body
  pub value : value_of body ≡ n

-- the same of any value, as a test
abbrev pub are_digits : List ℕ → Bool
are_digits body = not (length body == 0) && list_all is_ascii_digit body

abbrev pub number_refusal : List ℕ → Option Code
number_refusal body = line_refusal body (refusal_unless (are_digits body) BadNumber)

numbers : (number_refusal (codes "0") ≡ None) × (number_refusal (codes "007") ≡ None)
    × (number_refusal (codes "9999999999999999999999999999999999999999") ≡ None)
numbers = (refl, refl, refl)

no_numbers : (number_refusal [] ≡ Some BadNumber) × (number_refusal (codes "1k") ≡ Some BadNumber)
    × (number_refusal (codes "+1") ≡ Some BadNumber)
    × (number_refusal (codes " 1") ≡ Some BadNumber)
    × (number_refusal (codes "1\n 2") ≡ Some NotOneLine)
no_numbers = (refl, refl, refl, refl, refl)

canonical_numbers : (digits_of (value_of (codes "000")) ≡ codes "0")
    × (digits_of (value_of (codes "007")) ≡ codes "7")
    × (digits_of (value_of (codes "010")) ≡ codes "10")
canonical_numbers = (refl, refl, refl)

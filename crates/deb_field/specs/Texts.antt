-- Values that are their own text: plain text, lines, and the names of packages and architectures.
-- Debian Policy 5.1, 5.6.1 (names of packages) and 5.6.8 (architectures).
use Rattle.std.specs.Prelude.{◌≡◌, ℕ, Bool, true, false, not, List, [], Option, Some, None, IsTrue, codes, refl}
use Rattle.deb_base.specs.declared.code.Code.{Code}
use Rattle.deb_base.specs.declared.code.Code.TheVariants.{NotOneLine, BadName, BadArchitecture}
use Rattle.deb_base.specs.PackageNames.{is_package_name, is_arch_name}
use Rattle.deb_field.specs.OneLine.{holds_newline, line_refusal, refusal_unless}

-- a body that passes the test means itself
abbrev pub SpellsItself : (List ℕ → Bool) → List ℕ → List ℕ → Type 0
SpellsItself test body text = (body ≡ text) × IsTrue (test body)

-- the canonical text of such a value is the value
abbrev pub text_itself : List ℕ → List ℕ
text_itself text = text

abbrev pub is_any_text : List ℕ → Bool
is_any_text body = true

abbrev pub is_one_line : List ℕ → Bool
is_one_line body = not (holds_newline body)

-- plain text: any body
abbrev pub SpellsText : List ℕ → List ℕ → Type 0
SpellsText = SpellsItself is_any_text

abbrev pub text_refusal : List ℕ → Option Code
text_refusal body = None

-- a line: any body of one line, also the empty one
abbrev pub SpellsLine : List ℕ → List ℕ → Type 0
SpellsLine = SpellsItself is_one_line

abbrev pub one_line_refusal : List ℕ → Option Code
one_line_refusal body = line_refusal body None

-- the name of a package
abbrev pub SpellsName : List ℕ → List ℕ → Type 0
SpellsName = SpellsItself is_package_name

abbrev pub name_refusal : List ℕ → Option Code
name_refusal body = line_refusal body (refusal_unless (is_package_name body) BadName)

-- the name of an architecture
abbrev pub SpellsArchitecture : List ℕ → List ℕ → Type 0
SpellsArchitecture = SpellsItself is_arch_name

abbrev pub architecture_refusal : List ℕ → Option Code
architecture_refusal body = line_refusal body (refusal_unless (is_arch_name body) BadArchitecture)

any_body : (is_any_text [] ≡ true) × (is_any_text (codes "aa\n bb") ≡ true)
any_body = (refl, refl)

one_line : (is_one_line [] ≡ true) × (is_one_line (codes "Aa <a@b>") ≡ true)
    × (is_one_line (codes "aa\n bb") ≡ false)
one_line = (refl, refl, refl)

own_text : text_itself (codes "aa\n bb") ≡ codes "aa\n bb"
own_text = refl

lines : (one_line_refusal [] ≡ None) × (one_line_refusal (codes "Aa <a@b>") ≡ None)
    × (one_line_refusal (codes "a\n b") ≡ Some NotOneLine)
lines = (refl, refl, refl)

names : (name_refusal (codes "g++") ≡ None) × (name_refusal [] ≡ Some BadName)
    × (name_refusal (codes "a") ≡ Some BadName) × (name_refusal (codes "Aa") ≡ Some BadName)
    × (name_refusal (codes "aa\n b") ≡ Some NotOneLine)
names = (refl, refl, refl, refl, refl)

architectures : (architecture_refusal (codes "all") ≡ None)
    × (architecture_refusal (codes "linux-any") ≡ None)
    × (architecture_refusal [] ≡ Some BadArchitecture)
    × (architecture_refusal (codes "any all") ≡ Some BadArchitecture)
architectures = (refl, refl, refl, refl)

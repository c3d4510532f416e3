-- The field Source: the name of a source package, perhaps with a version in parentheses. Debian
-- Policy 5.6.1.
use Rattle.std.specs.Prelude.{◌≡◌, ℕ, ◌==◌, ◌&&◌, ◌-◌, Bool, false, cond, List, [], ◌∷◌, ◌++◌, length, take, Option, Some, None, MatchOption, IsTrue, codes, refl}
use Rattle.std.specs.List.{list_any, before_first, after_first}
use Rattle.deb_base.specs.Bodies.{is_all_blank}
use Rattle.deb_base.specs.PackageNames.{is_package_name}
use Rattle.deb_base.specs.declared.code.Code.{Code}
use Rattle.deb_base.specs.declared.code.Code.TheVariants.{NotOneLine, BadName, BadVersion}
use Rattle.deb_version.specs.Parts.{Meaning as VersionMeaning}
use Rattle.deb_version.specs.Grammar.{SpellsVersion}
use Rattle.deb_version.specs.Canonical.{version_text}
use Rattle.deb_version.specs.Faults.{first_fault}
use Rattle.deb_field.specs.OneLine.{line_refusal, refusal_unless}
use Rattle.deb_base.specs.Trimming.{without_trailing_blanks, trimmed}
use Rattle.deb_field.specs.Versions.{is_version}

-- what the field means: a name, and a version or none
pub record SourceMeaning : Type 0 where
  pub name : List ℕ
  pub version : Option VersionMeaning

abbrev pub source_of : List ℕ → Option VersionMeaning → SourceMeaning
source_of name version = record { name = name; version = version }

-- `name`
pub record SpellsPlain (body name : List ℕ) : Type 0 where
  pub spelt : body ≡ name
  pub named : IsTrue (is_package_name name)

-- `name (version)`, with spaces and tabs before the parenthesis and within it
pub record SpellsVersioned (body name : List ℕ) (version : VersionMeaning) : Type 0 where
  pub gap : List ℕ
  pub left : List ℕ
  pub text : List ℕ
  pub right : List ℕ
  pub spelt : body ≡ name ++ (gap ++ (40 ∷ (left ++ (text ++ (right ++ (41 ∷ []))))))
  pub named : IsTrue (is_package_name name)
  pub gap_blank : IsTrue (is_all_blank gap)
  pub left_blank : IsTrue (is_all_blank left)
  pub right_blank : IsTrue (is_all_blank right)
  pub versioned : SpellsVersion text version

-- The body spells the source.
abbrev pub SpellsSource : List ℕ → SourceMeaning → Type 0
SpellsSource body source =
    MatchOption source.version (SpellsPlain body source.name)
    (λ version. SpellsVersioned body source.name version)

-- a version in parentheses after a name
abbrev pub version_suffix : Option VersionMeaning → List ℕ
version_suffix None = []
version_suffix (Some version) = 32 ∷ 40 ∷ version_text version ++ 41 ∷ []

-- the canonical text: `name` or `name (version)`
abbrev pub source_text : SourceMeaning → List ℕ
source_text source = source.name ++ version_suffix source.version

-- the body has an opening parenthesis
abbrev pub is_open : ℕ → Bool
is_open b = b == 40

abbrev pub has_version : List ℕ → Bool
has_version body = list_any is_open body

-- the name before the first opening parenthesis
abbrev pub name_before : List ℕ → List ℕ
name_before body = without_trailing_blanks (before_first is_open body)

-- a closing parenthesis comes last
abbrev pub is_closed : List ℕ → Bool
is_closed [] = false
is_closed (b ∷ []) = b == 41
is_closed (b ∷ c ∷ bs) = is_closed (c ∷ bs)

-- a text without its last byte
abbrev pub without_last : List ℕ → List ℕ
without_last text = take (length text - 1) text

-- the version between the first opening parenthesis and the last byte
abbrev pub version_within : List ℕ → List ℕ
version_within body = trimmed (without_last (after_first is_open body))

-- of what precedes and what follows the first opening parenthesis: the name and the closing
-- parenthesis are judged before the version
abbrev pub refusal_around : List ℕ → List ℕ → Option Code
refusal_around before behind =
    cond (is_package_name (without_trailing_blanks before) && is_closed behind)
    (refusal_unless (is_version (trimmed (without_last behind))) BadVersion)
    (Some BadName)

abbrev pub versioned_refusal : List ℕ → Option Code
versioned_refusal body = refusal_around (before_first is_open body) (after_first is_open body)

abbrev pub source_refusal : List ℕ → Option Code
source_refusal body =
    line_refusal body (cond (has_version body) (versioned_refusal body)
    (refusal_unless (is_package_name body) BadName))

sources : (source_refusal (codes "aa") ≡ None) × (source_refusal (codes "aa(1.)") ≡ None)
    × (source_refusal (codes "aa ( 1 )") ≡ None) × (source_refusal (codes "aa\t(\t1-2 )") ≡ None)
unfolding first_fault
sources = (refl, refl, refl, refl)

bad_names : (source_refusal [] ≡ Some BadName) × (source_refusal (codes "A (1_)") ≡ Some BadName)
    × (source_refusal (codes "aa (") ≡ Some BadName)
    × (source_refusal (codes "aa(") ≡ Some BadName) × (source_refusal (codes "(1)") ≡ Some BadName)
    × (source_refusal (codes "aa (1) x") ≡ Some BadName)
    × (source_refusal (codes "aa bb") ≡ Some BadName)
unfolding first_fault
bad_names = (refl, refl, refl, refl, refl, refl, refl)

bad_versions : (source_refusal (codes "aa ()") ≡ Some BadVersion)
    × (source_refusal (codes "aa (1) (2)") ≡ Some BadVersion)
    × (source_refusal (codes "aa (1_)") ≡ Some BadVersion)
unfolding first_fault
bad_versions = (refl, refl, refl)

two_lines : source_refusal (codes "A (1_\n )") ≡ Some NotOneLine
two_lines = refl

plain_text : source_text (record { name = codes "aa"; version = None }) ≡ codes "aa"
plain_text = refl

versioned_text : source_text (record {
  name = codes "aa";
  version = Some (record {
    epoch = 0;
    upstream = ([], 1) ∷ (codes ".", 0) ∷ [];
    revision = ([], 0) ∷ [];
  });
}) ≡ codes "aa (1.0)"
versioned_text = refl

names_and_versions : (name_before (codes "aa \t(1 (2)") ≡ codes "aa")
    × (version_within (codes "aa ( 1 )") ≡ codes "1")
    × (version_within (codes "aa (1) (2)") ≡ codes "1) (2")
names_and_versions = (refl, refl, refl)

-- the first opening parenthesis counts, and the last byte; a name has no blank before it
parentheses : (source_refusal (codes "aa ((1))") ≡ Some BadVersion)
    × (source_refusal (codes "aa (1))") ≡ Some BadVersion)
    × (source_refusal (codes "aa) (1)") ≡ Some BadName)
    × (source_refusal (codes " aa (1)") ≡ Some BadName)
    × (source_refusal (codes "aa (1)\t") ≡ Some BadName)
    × (source_refusal (codes "aa 1)") ≡ Some BadName)
    × (source_refusal (codes "aa [1]") ≡ Some BadName)
    × (source_refusal (codes "aa (1 2)") ≡ Some BadVersion)
unfolding first_fault
parentheses = (refl, refl, refl, refl, refl, refl, refl, refl)

-- a bad name goes before a bad version, and more than one line before both
order_of_faults : (source_refusal (codes "a (1_)") ≡ Some BadName)
    × (source_refusal (codes "aa (1_") ≡ Some BadName)
    × (source_refusal (codes "a\n (1_)") ≡ Some NotOneLine)
unfolding first_fault
order_of_faults = (refl, refl, refl)

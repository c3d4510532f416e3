-- What is answered of versions to a program in C: Debian Policy 5.6.12 and deb-version(7). The
-- numbers of the orders are this project's own.
use Rattle.std.specs.Prelude.{◌≡◌, ◌⊎◌, ℕ, List, ℤ, pos, negsuc, refl}
use Rattle.std.specs.declared.cmp.Ordering.{Ordering}
use Rattle.std.specs.declared.cmp.Ordering.TheVariants.{Less, Equal, Greater}
use Rattle.deb_base.specs.declared.code.Code.TheVariants.{BadVersion}
use Rattle.deb_base.specs.declared.refusal.Refusal.{Refusal}
use Rattle.deb_version.specs.Canonical.{version_text}
use Rattle.deb_version.specs.Grammar.{SpellsVersion}
use Rattle.deb_version.specs.KeyLaws.{SortsAsItsVersion}
use Rattle.deb_version.specs.Keys.{version_key}
use Rattle.deb_version.specs.Order.{version_cmp}
use Rattle.deb_version.specs.Parts.{Meaning}
use Rattle.debctl_ffi.specs.Answers.{counting, plain, refusing}
use Rattle.debctl_ffi.specs.declared.answer.Answer.{Answer}
use Rattle.debctl_ffi.specs.declared.versions.Comparison.{Comparison}

-- The text is a version; it is none, and its refusal.
abbrev pub IsVersion : List ℕ → Type 0
IsVersion text = (version : Meaning) × SpellsVersion text version

abbrev pub IsNoVersion : List ℕ → Type 0
IsNoVersion text = (version : Meaning) → SpellsVersion text version → ⊥

abbrev pub bad_version : Refusal
bad_version = record { code = BadVersion; line = 0 }

-- the number of an order: below 0 where the first is earlier, above it where it is later
abbrev pub order_number : Ordering → ℤ
order_number Less = negsuc 0
order_number Equal = pos 0
order_number Greater = pos 1

abbrev pub comparing : ℕ → ℕ → Ordering → Comparison
comparing status code order =
    record { status = status; code = code; order = order_number order }

orders : (comparing 0 0 Less ≡ record { status = 0; code = 0; order = negsuc 0 })
    × (comparing 0 0 Equal ≡ record { status = 0; code = 0; order = pos 0 })
    × (comparing 0 0 Greater ≡ record { status = 0; code = 0; order = pos 1 })
    × (comparing 3 18 Equal ≡ record { status = 3; code = 18; order = pos 0 })
orders = (refl, refl, refl, refl)

refusals : refusing 2 bad_version ≡ record { status = 2; code = 18; line = 0; count = 0 }
refusals = refl

-- Both texts are versions, and this is their order.
pub record Compares (left right : List ℕ) (comparison : Comparison) : Type 0 where
  pub first : Meaning
  pub second : Meaning
  pub first_spelled : SpellsVersion left first
  pub second_spelled : SpellsVersion right second
  pub is : comparison ≡ comparing 0 0 (version_cmp first second)

-- The text is a version, and this is its canonical text, or its key, which sorts as it does.
pub record IsCanonical (text : List ℕ) (told : Answer) (bytes : List ℕ) : Type 0 where
  pub version : Meaning
  pub spelled : SpellsVersion text version
  pub text_is : bytes ≡ version_text version
  pub is : told ≡ counting 0 0

pub record IsKey (text : List ℕ) (told : Answer) (bytes : List ℕ) : Type 0 where
  pub version : Meaning
  pub spelled : SpellsVersion text version
  pub sorts : SortsAsItsVersion version
  pub key_is : bytes ≡ version_key version
  pub is : told ≡ counting 0 0

-- It isn't one; or it is, and memory is out.
abbrev pub VersionFails : List ℕ → Answer → Type 0
VersionFails text answer =
    ((answer ≡ refusing 2 bad_version) × IsNoVersion text) ⊎ ((answer ≡ plain 5) × IsVersion text)

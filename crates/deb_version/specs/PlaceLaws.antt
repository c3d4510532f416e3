-- What the offsets of bad bytes are: what comes before one can be continued to a version, and with
-- the byte it can't. Debian Policy 5.6.12.
use Rattle.std.specs.Prelude.{◌≡◌, ℕ, List, ◌∷◌, ◌++◌, length, Some, IsTrue}
use Rattle.deb_version.specs.declared.fault.BadVersion.TheVariants.{UpstreamByte, RevisionByte}
use Rattle.deb_version.specs.Canonical.{holds_hyphen}
use Rattle.deb_version.specs.Faults.{first_fault}
use Rattle.deb_version.specs.Grammar.{SpellsVersion}
use Rattle.deb_version.specs.Parts.{Meaning}

-- some version begins with the text
abbrev pub BeginsVersion : List ℕ → Type 0
BeginsVersion text = (more : List ℕ) × (m : Meaning) × SpellsVersion (text ++ more) m

-- A byte of a text at an offset. What comes before it begins a version. A version that begins with
-- that and the byte is an exception: a fact about the byte and the rest of the version.
pub record IsBadByte (text : List ℕ) (at : ℕ) (Exception : ℕ → List ℕ → Type 0) : Type 0 where
  pub before : List ℕ
  pub byte : ℕ
  pub after : List ℕ
  pub whole : text ≡ before ++ byte ∷ after
  pub place : length before ≡ at
  pub begins : BeginsVersion before
  pub stops : (more : List ℕ) (m : Meaning) → SpellsVersion (before ++ byte ∷ more) m
      → Exception byte more

-- No version begins with a text up to and including the byte that `UpstreamByte` reports.
abbrev pub UpstreamBytesStop : Type 0
UpstreamBytesStop =
    (text : List ℕ) (at : ℕ) → first_fault text ≡ Some (UpstreamByte at)
    → IsBadByte text at (λ byte more. ⊥)

-- Nor with the byte that `RevisionByte` reports, unless it is a colon and a hyphen follows later:
-- then the colon is within the upstream version.
abbrev pub RevisionBytesStop : Type 0
RevisionBytesStop =
    (text : List ℕ) (at : ℕ) → first_fault text ≡ Some (RevisionByte at)
    → IsBadByte text at (λ byte more. (byte ≡ 58) × IsTrue (holds_hyphen more))

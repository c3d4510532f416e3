-- What the jobs on versions answer: Debian Policy 5.6.12 and deb-version(7). The statuses, the line
-- of a refusal and the newline after a canonical version are this project's own.
use Rattle.std.specs.Prelude.{◌≡◌, ◌⊎◌, ℕ, Bool, true, false, not, List, [], ◌∷◌, ◌++◌, Option}
use Rattle.std.specs.Prelude.{Result, Ok, Err, if◌then◌else◌, codes, refl}
use Rattle.std.specs.Fmt.{digits}
use Rattle.std.specs.Io.KnownBytes.{Appends}
use Rattle.std.specs.declared.cmp.Ordering.{Ordering}
use Rattle.std.specs.declared.cmp.Ordering.TheVariants as order
use Rattle.deb_base.specs.Bodies.{newline}
use Rattle.deb_base.specs.Devices.{AppendsFront, one_more}
use Rattle.deb_base.specs.Lines.{refusal_line}
use Rattle.deb_base.specs.declared.code.Code.TheVariants.{BadVersion}
use Rattle.deb_base.specs.declared.fault.Fault.{Fault}
use Rattle.deb_base.specs.declared.fault.Fault.TheVariants.{Refused, Memory, Read, Write}
use Rattle.deb_base.specs.declared.refusal.Refusal.{Refusal}
use Rattle.deb_version.specs.Canonical.{version_text}
use Rattle.deb_version.specs.Grammar.{SpellsVersion}
use Rattle.deb_version.specs.Order.{version_cmp}
use Rattle.deb_version.specs.Parts.{Meaning, no_revision}
use Rattle.deb_version.specs.Version.{meaning_of}
use Rattle.deb_version.specs.declared.version.Version.{Version}
use Rattle.debctl_args.specs.declared.jobs.Cmp.{Cmp}
use Rattle.debctl_args.specs.declared.jobs.Cmp.TheVariants as cmp

-- versions in this order compare as the operator asks
abbrev pub is_less : Ordering → Bool
is_less order.Less = true
is_less order.Equal = false
is_less order.Greater = false

abbrev pub is_equal : Ordering → Bool
is_equal order.Less = false
is_equal order.Equal = true
is_equal order.Greater = false

abbrev pub is_greater : Ordering → Bool
is_greater order.Less = false
is_greater order.Equal = false
is_greater order.Greater = true

abbrev pub holds : Cmp → Ordering → Bool
holds cmp.Less order = is_less order
holds cmp.LessOrEqual order = not (is_greater order)
holds cmp.Equal order = is_equal order
holds cmp.NotEqual order = not (is_equal order)
holds cmp.GreaterOrEqual order = not (is_less order)
holds cmp.Greater order = is_greater order

-- the text is a version, and it is none
abbrev pub IsVersion : List ℕ → Type 0
IsVersion text = (version : Meaning) × SpellsVersion text version

abbrev pub IsNoVersion : List ℕ → Type 0
IsNoVersion text = (version : Meaning) → SpellsVersion text version → ⊥

-- the refusal of a word that is no version
abbrev pub bad_version : Refusal
bad_version = record { code = BadVersion; line = 0 }

-- a word's version, or a refusal where it is none
abbrev pub ParsesWord : List ℕ → Result Version Fault → Type 0
ParsesWord text (Ok version) = SpellsVersion text (meaning_of version)
ParsesWord text (Err (Refused refusal)) = (refusal ≡ bad_version) × IsNoVersion text
ParsesWord text (Err Memory) = ⊥
ParsesWord text (Err Read) = ⊥
ParsesWord text (Err Write) = ⊥

-- ---- compare

-- Both texts are versions, and the answer is whether they compare as the operator asks.
pub record Compared (left : List ℕ) (operator : Cmp) (right : List ℕ) (answer : Bool) : Type 0 where
  pub first : Meaning
  pub second : Meaning
  pub first_spelled : SpellsVersion left first
  pub second_spelled : SpellsVersion right second
  pub is : answer ≡ holds operator (version_cmp first second)

-- the answer to `compare`: a refusal where a text is no version
abbrev pub Compares : List ℕ → Cmp → List ℕ → Result Bool Fault → Type 0
Compares left operator right (Ok answer) = Compared left operator right answer
Compares left operator right (Err (Refused refusal)) =
    (refusal ≡ bad_version) × (IsNoVersion left ⊎ IsNoVersion right)
Compares left operator right (Err Memory) = ⊥
Compares left operator right (Err Read) = ⊥
Compares left operator right (Err Write) = ⊥

-- the status of an answer: 0 for yes, 1 for no
abbrev pub verdict_status : Bool → ℕ
verdict_status answer = if answer then 0 else 1

-- ---- canon-version

-- the line of a canonical version
abbrev pub version_line : Meaning → List ℕ
version_line version = version_text version ++ newline ∷ []

-- the line, or a refusal of a text that is no version
abbrev pub GivesLine : {T : Type 0} → (T → List ℕ) → List ℕ → Result T Fault → Type 0
GivesLine bytes text (Ok line) =
    (version : Meaning) × SpellsVersion text version × (bytes line ≡ version_line version)
GivesLine bytes text (Err (Refused refusal)) = (refusal ≡ bad_version) × IsNoVersion text
GivesLine bytes text (Err Memory) = IsVersion text
GivesLine bytes text (Err Read) = ⊥
GivesLine bytes text (Err Write) = ⊥

-- The text is a version, and exactly its line was written; or a prefix of it was, before a write
-- failed.
pub record WritesLine {W : Type 0} (text : List ℕ) (held : W → Option (List ℕ)) (failures : W → ℕ)
    (old new : W) : Type 0 where
  pub version : Meaning
  pub spelled : SpellsVersion text version
  pub written : Appends (held old) (held new) (version_line version)
  pub counted : failures new ≡ failures old

pub record WritesFrontOfLine {W : Type 0} (text : List ℕ) (held : W → Option (List ℕ))
    (failures : W → ℕ) (old new : W) : Type 0 where
  pub version : Meaning
  pub spelled : SpellsVersion text version
  pub written : AppendsFront (held old) (held new) (version_line version)
  pub counted : failures new ≡ one_more (failures old)

-- the answer to `canon-version`, and what it wrote
abbrev pub Canonicalises : {T W : Type 0} → List ℕ → (W → Option (List ℕ)) → (W → ℕ) → W → W
    → Result T Fault → Type 0
Canonicalises text held failures old new (Ok _) = WritesLine text held failures old new
Canonicalises text held failures old new (Err (Refused refusal)) =
    (refusal ≡ bad_version) × IsNoVersion text × (new ≡ old)
Canonicalises text held failures old new (Err Memory) = IsVersion text × (new ≡ old)
Canonicalises text held failures old new (Err Read) = ⊥
Canonicalises text held failures old new (Err Write) = WritesFrontOfLine text held failures old new

line_of_bad_version : refusal_line bad_version ≡ codes "line 0: 18 BadVersion\n"
unfolding digits
line_of_bad_version = refl

less_or_equal_holds_of_equal : (holds cmp.LessOrEqual order.Equal ≡ true)
    × (holds cmp.Less order.Equal ≡ false) × (holds cmp.NotEqual order.Equal ≡ false)
less_or_equal_holds_of_equal = (refl, refl, refl)

-- the other operators, of versions in each order
operators : (holds cmp.Less order.Less ≡ true) × (holds cmp.Less order.Greater ≡ false)
    × (holds cmp.LessOrEqual order.Less ≡ true) × (holds cmp.LessOrEqual order.Greater ≡ false)
    × (holds cmp.Equal order.Equal ≡ true) × (holds cmp.Equal order.Less ≡ false)
    × (holds cmp.Equal order.Greater ≡ false) × (holds cmp.NotEqual order.Less ≡ true)
    × (holds cmp.NotEqual order.Greater ≡ true) × (holds cmp.GreaterOrEqual order.Less ≡ false)
    × (holds cmp.GreaterOrEqual order.Equal ≡ true)
    × (holds cmp.GreaterOrEqual order.Greater ≡ true) × (holds cmp.Greater order.Less ≡ false)
    × (holds cmp.Greater order.Equal ≡ false) × (holds cmp.Greater order.Greater ≡ true)
operators =
    (refl, refl, refl, refl, refl, refl, refl, refl, refl, refl, refl, refl, refl, refl, refl)

statuses_of_verdicts : (verdict_status true ≡ 0) × (verdict_status false ≡ 1)
statuses_of_verdicts = (refl, refl)

-- of the version 01:02.a3-00, whose revision isn't written
line_of_version : version_line
    (record { epoch = 1; upstream = ([], 2) ∷ (codes ".a", 3) ∷ []; revision = no_revision })
    ≡ codes "1:2.a3\n"
line_of_version = refl

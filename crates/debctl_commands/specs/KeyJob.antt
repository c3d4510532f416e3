-- What the job of `version-key` answers. Keys are those of `deb_version`; their spelling in
-- hexadecimal, one line for each, is this project's own.
use Rattle.std.specs.Prelude.{◌≡◌, ◌⊎◌, ℕ, List, [], ◌∷◌, ◌++◌, Option, Result, Ok, Err, codes, refl}
use Rattle.std.specs.Io.KnownBytes.{Appends}
use Rattle.deb_base.specs.Bodies.{newline}
use Rattle.deb_base.specs.Devices.{AppendsFront, one_more}
use Rattle.deb_base.specs.declared.fault.Fault.{Fault}
use Rattle.deb_base.specs.declared.fault.Fault.TheVariants.{Refused, Memory, Read, Write}
use Rattle.deb_version.specs.Grammar.{SpellsVersion}
use Rattle.deb_version.specs.Keys.{version_key}
use Rattle.deb_version.specs.Parts.{Meaning, no_revision}
use Rattle.hex.specs.Hex.{encode_lower, encode_with}
use Rattle.debctl_commands.specs.VersionJobs.{bad_version, IsNoVersion}

-- ---- lines

-- the line of a version: its key in hexadecimal
abbrev pub key_line : Meaning → List ℕ
key_line version = encode_lower (version_key version) ++ newline ∷ []

-- the lines of versions, in their order
abbrev pub key_lines : List Meaning → List ℕ
key_lines [] = []
key_lines (version ∷ more) = key_line version ++ key_lines more

-- ---- the answer

-- each text is the version
abbrev pub SpellVersions : List (List ℕ) → List Meaning → Type 0
SpellVersions [] [] = Unit {0}
SpellVersions [] (version ∷ more) = ⊥
SpellVersions (text ∷ texts) [] = ⊥
SpellVersions (text ∷ texts) (version ∷ more) =
    SpellsVersion text version × SpellVersions texts more

-- some text is no version
abbrev pub HaveNoVersion : List (List ℕ) → Type 0
HaveNoVersion [] = ⊥
HaveNoVersion (text ∷ texts) = IsNoVersion text ⊎ HaveNoVersion texts

-- The texts are versions, and exactly their lines were written; or a prefix of them was, before a
-- write failed.
pub record WritesKeys {W : Type 0} (texts : List (List ℕ)) (held : W → Option (List ℕ))
    (failures : W → ℕ) (old new : W) : Type 0 where
  pub versions : List Meaning
  pub spelled : SpellVersions texts versions
  pub written : Appends (held old) (held new) (key_lines versions)
  pub counted : failures new ≡ failures old

pub record WritesFrontOfKeys {W : Type 0} (texts : List (List ℕ)) (held : W → Option (List ℕ))
    (failures : W → ℕ) (old new : W) : Type 0 where
  pub versions : List Meaning
  pub spelled : SpellVersions texts versions
  pub written : AppendsFront (held old) (held new) (key_lines versions)
  pub counted : failures new ≡ one_more (failures old)

-- the line of a text, or a refusal if it is no version
abbrev pub GivesKey : {T : Type 0} → (T → List ℕ) → List ℕ → Result T Fault → Type 0
GivesKey bytes text (Ok line) =
    (version : Meaning) × SpellsVersion text version × (bytes line ≡ key_line version)
GivesKey bytes text (Err (Refused refusal)) = (refusal ≡ bad_version) × IsNoVersion text
GivesKey bytes text (Err Memory) = Unit {0}
GivesKey bytes text (Err Read) = ⊥
GivesKey bytes text (Err Write) = ⊥

-- the lines, or a refusal if some text is no version
abbrev pub GivesKeys : {T : Type 0} → (T → List ℕ) → List (List ℕ) → Result T Fault → Type 0
GivesKeys bytes texts (Ok lines) =
    (versions : List Meaning) × SpellVersions texts versions × (bytes lines ≡ key_lines versions)
GivesKeys bytes texts (Err (Refused refusal)) = (refusal ≡ bad_version) × HaveNoVersion texts
GivesKeys bytes texts (Err Memory) = Unit {0}
GivesKeys bytes texts (Err Read) = ⊥
GivesKeys bytes texts (Err Write) = ⊥

-- the answer to `version-key`, and what it wrote
abbrev pub Keys : {T W : Type 0} → List (List ℕ) → (W → Option (List ℕ)) → (W → ℕ) → W → W
    → Result T Fault → Type 0
Keys texts held failures old new (Ok _) = WritesKeys texts held failures old new
Keys texts held failures old new (Err (Refused refusal)) =
    (refusal ≡ bad_version) × HaveNoVersion texts × (new ≡ old)
Keys texts held failures old new (Err Memory) = new ≡ old
Keys texts held failures old new (Err Read) = ⊥
Keys texts held failures old new (Err Write) = WritesFrontOfKeys texts held failures old new

-- ---- worked cases

-- the version 0, and 1~ after it
abbrev zero : Meaning
zero = record { epoch = 0; upstream = ([], 0) ∷ []; revision = no_revision }

abbrev before_one : Meaning
before_one =
    record { epoch = 0; upstream = ([], 1) ∷ (codes "~", 0) ∷ []; revision = no_revision }

lines_in_order : key_lines (zero ∷ before_one ∷ [])
    ≡ codes "0100020002020002\n010002013101020002020002\n"
unfolding encode_with
lines_in_order = refl

no_lines : key_lines [] ≡ []
no_lines = refl

-- as many versions as texts
versions_of_texts : (SpellVersions (codes "0" ∷ codes "1~" ∷ []) (zero ∷ before_one ∷ [])
    ≡ (SpellsVersion (codes "0") zero × (SpellsVersion (codes "1~") before_one × Unit {0})))
    × (SpellVersions (codes "0" ∷ [] ∷ []) (zero ∷ []) ≡ (SpellsVersion (codes "0") zero × ⊥))
    × (HaveNoVersion (codes "0" ∷ []) ≡ (IsNoVersion (codes "0") ⊎ ⊥))
versions_of_texts = (refl, refl, refl)

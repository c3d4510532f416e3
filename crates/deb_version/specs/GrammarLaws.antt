-- The laws of the grammar of versions: what the definitions of `Parts`, `Grammar`, `Places` and
-- `Faults` amount to. Debian Policy 5.6.12; deb-version(7).
use Rattle.std.specs.Prelude.{◌≡◌, ◌≢◌, ◌↔◌, List, ℕ, Some, None, IsTrue}
use Rattle.deb_version.specs.declared.fault.BadVersion.TheVariants.{EpochTooBig}
use Rattle.deb_version.specs.Parts.{Part, HasParts, parts_of, Meaning}
use Rattle.deb_version.specs.Grammar.{Components, SpellsVersion, are_components, spelling}
use Rattle.deb_version.specs.Places.{components_in}
use Rattle.deb_version.specs.Faults.{first_fault}
use Rattle.deb_version.specs.declared.version.Version.{Version}
use Rattle.deb_version.specs.Version.{components_of, meaning_of}

-- A text spells at most one version.
abbrev pub SpellsOneVersion : Type 0
SpellsOneVersion =
    (text : List ℕ) (m n : Meaning) → SpellsVersion text m → SpellsVersion text n → m ≡ n

-- A text spells a version exactly where it has no fault.
abbrev pub SpellsWhereFaultless : Type 0
SpellsWhereFaultless =
    (text : List ℕ) → ((m : Meaning) × SpellsVersion text m) ↔ (first_fault text ≡ None)

-- A text has one list of parts.
abbrev pub HasOneListOfParts : Type 0
HasOneListOfParts =
    (text : List ℕ) (parts : List Part) → HasParts text parts ↔ (parts ≡ parts_of text)

-- Every text is spelled by the components that are in it, and allowed components are in their
-- spelling.
abbrev pub ComponentsSpell : Type 0
ComponentsSpell = (text : List ℕ) → spelling (components_in text) ≡ text

abbrev pub AllowedComponentsStand : Type 0
AllowedComponentsStand =
    (c : Components) → IsTrue (are_components c) → components_in (spelling c) ≡ c

-- An epoch has no largest value: it is never too big.
abbrev pub EpochHasAnySize : Type 0
EpochHasAnySize = (text : List ℕ) → first_fault text ≢ Some EpochTooBig

-- A `Version` spells a text with its meaning: that of its components.
abbrev pub VersionSpells : Version → Type 0
VersionSpells v = SpellsVersion (spelling (components_of v)) (meaning_of v)

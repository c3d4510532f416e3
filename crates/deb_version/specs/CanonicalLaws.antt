-- What canonical text promises: it can be compared, hashed or signed instead of the version.
-- Debian Policy 5.6.12; deb-version(7).
use Rattle.std.specs.Prelude.{◌≡◌, ℕ, ◌*◌, ◌≤◌, ◌↔◌, List, length}
use Rattle.std.specs.declared.cmp.Ordering.TheVariants.{Equal}
use Rattle.deb_version.specs.Parts.{Meaning}
use Rattle.deb_version.specs.Grammar.{SpellsVersion}
use Rattle.deb_version.specs.Order.{version_cmp}
use Rattle.deb_version.specs.Canonical.{version_text}

-- The canonical text of a version that is spelled spells that version.
abbrev pub CanonicalTextSpells : Type 0
CanonicalTextSpells =
    (text : List ℕ) (m : Meaning) → SpellsVersion text m → SpellsVersion (version_text m) m

-- Two versions that are spelled have one canonical text exactly if they mean the same.
abbrev pub CanonicalTextDecides : Type 0
CanonicalTextDecides =
    (s t : List ℕ) (m n : Meaning) → SpellsVersion s m → SpellsVersion t n
    → (version_text m ≡ version_text n) ↔ (m ≡ n)

-- The canonical text of what canonical text spells is that text.
abbrev pub CanonicalTextStays : Type 0
CanonicalTextStays =
    (text : List ℕ) (m n : Meaning) → SpellsVersion text m → SpellsVersion (version_text m) n
    → version_text n ≡ version_text m

-- Canonical text is at most twice as long as each text that spells the version.
abbrev pub CanonicalTextIsShort : Type 0
CanonicalTextIsShort =
    (text : List ℕ) (m : Meaning) → SpellsVersion text m → length (version_text m) ≤ 2 * length text

-- Two versions that are spelled are equal in Debian's order exactly if they have one canonical
-- text.
abbrev pub EqualVersionsHaveOneText : Type 0
EqualVersionsHaveOneText =
    (s t : List ℕ) (m n : Meaning) → SpellsVersion s m → SpellsVersion t n
    → (version_cmp m n ≡ Equal) ↔ (version_text m ≡ version_text n)

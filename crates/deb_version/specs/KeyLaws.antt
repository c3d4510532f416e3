-- What keys promise: they can be compared, sorted and indexed instead of the versions.
-- deb-version(7), "Sorting algorithm".
use Rattle.std.specs.Prelude.{◌≡◌, ℕ, ◌+◌, ◌*◌, ◌≤◌, ◌↔◌, List, ◌++◌, length}
use Rattle.std.specs.Ordering.{ordering_then}
use Rattle.std.specs.declared.cmp.Ordering.TheVariants.{Equal}
use Rattle.deb_version.specs.Grammar.{SpellsVersion}
use Rattle.deb_version.specs.Keys.{byte_order, version_key}
use Rattle.deb_version.specs.Order.{version_cmp}
use Rattle.deb_version.specs.OrderLaws.{HasTexts}
use Rattle.deb_version.specs.Parts.{Meaning}

-- The order of the keys' bytes is Debian's order of the versions.
abbrev pub KeysSortAsVersions : Type 0
KeysSortAsVersions =
    (a b : Meaning) → HasTexts a → HasTexts b
    → byte_order (version_key a) (version_key b) ≡ version_cmp a b

abbrev pub KeysSortAsVersionsSpelled : Type 0
KeysSortAsVersionsSpelled =
    (s t : List ℕ) (a b : Meaning) → SpellsVersion s a → SpellsVersion t b
    → byte_order (version_key a) (version_key b) ≡ version_cmp a b

-- The key of a version sorts as the version does, among the keys of all versions that are spelled.
abbrev pub SortsAsItsVersion : Meaning → Type 0
SortsAsItsVersion a =
    (t : List ℕ) (b : Meaning) → SpellsVersion t b
    → byte_order (version_key a) (version_key b) ≡ version_cmp a b

-- Whatever follows the keys of two versions decides only if the versions are equal.
abbrev pub KeysMayBeFollowed : Type 0
KeysMayBeFollowed =
    (s t : List ℕ) (a b : Meaning) → SpellsVersion s a → SpellsVersion t b → (x y : List ℕ)
    → byte_order (version_key a ++ x) (version_key b ++ y)
    ≡ ordering_then (version_cmp a b) (byte_order x y)

-- Versions are equal exactly if their keys are the same.
abbrev pub EqualVersionsHaveOneKey : Type 0
EqualVersionsHaveOneKey =
    (s t : List ℕ) (a b : Meaning) → SpellsVersion s a → SpellsVersion t b
    → (version_key a ≡ version_key b) ↔ (version_cmp a b ≡ Equal)

-- The key of a version that a text of n bytes spells has at most 2n + 8 bytes.
abbrev pub KeyIsShort : Type 0
KeyIsShort =
    (text : List ℕ) (m : Meaning) → SpellsVersion text m
    → length (version_key m) ≤ 2 * length text + 8

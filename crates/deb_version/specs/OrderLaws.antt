-- The laws of Debian's order of versions: what the definitions of `Order` amount to.
-- deb-version(7), "Sorting algorithm"; Debian Policy 5.6.12.
use Rattle.std.specs.Prelude.{◌≡◌, ◌≢◌, ℕ, ◌<◌, ◌↔◌, ◌||◌, List, ◌∷◌, ◌++◌, IsTrue, IsFalse}
use Rattle.std.specs.Char.{is_ascii_alphabetic}
use Rattle.std.specs.Cmp.{IsTotalOrder}
use Rattle.std.specs.Ordering.{is_ge, is_le, ordering_reverse}
use Rattle.std.specs.declared.cmp.Ordering.TheVariants.{Less, Equal}
use Rattle.deb_version.specs.Grammar.{SpellsVersion}
use Rattle.deb_version.specs.Hashes.{version_writes}
use Rattle.deb_version.specs.Order.{text_cmp, version_cmp}
use Rattle.deb_version.specs.Parts.{HasParts, Meaning}

-- Each version equals itself.
abbrev pub Reflexive : Type 0
Reflexive = (a : Meaning) → version_cmp a a ≡ Equal

-- Of two versions one is earlier than or equal to the other, and the other way round the answer is
-- the reverse.
abbrev pub Total : Type 0
Total = (a b : Meaning) → IsTrue (is_le (version_cmp a b) || is_le (version_cmp b a))

abbrev pub Reversed : Type 0
Reversed = (a b : Meaning) → version_cmp b a ≡ ordering_reverse (version_cmp a b)

-- Earlier, earlier or equal, later or equal, and equal are each transitive.
abbrev pub LessTransitive : Type 0
LessTransitive =
    (a b c : Meaning) → version_cmp a b ≡ Less → version_cmp b c ≡ Less → version_cmp a c ≡ Less

abbrev pub LessOrEqualTransitive : Type 0
LessOrEqualTransitive =
    (a b c : Meaning) → IsTrue (is_le (version_cmp a b)) → IsTrue (is_le (version_cmp b c))
    → IsTrue (is_le (version_cmp a c))

abbrev pub GreaterOrEqualTransitive : Type 0
GreaterOrEqualTransitive =
    (a b c : Meaning) → IsTrue (is_ge (version_cmp a b)) → IsTrue (is_ge (version_cmp b c))
    → IsTrue (is_ge (version_cmp a c))

abbrev pub EqualTransitive : Type 0
EqualTransitive =
    (a b c : Meaning) → version_cmp a b ≡ Equal → version_cmp b c ≡ Equal → version_cmp a c ≡ Equal

-- Equal versions compare alike with every third, on either side.
abbrev pub EqualCompareAlike : Type 0
EqualCompareAlike =
    (a b c : Meaning) → version_cmp a b ≡ Equal → (version_cmp a c ≡ version_cmp b c)
    × (version_cmp c a ≡ version_cmp c b)

-- In the words of std: a total order.
abbrev pub TotalOrder : Type 0
TotalOrder = IsTotalOrder version_cmp

-- the upstream version and the revision are the parts of texts
pub record HasTexts (m : Meaning) : Type 0 where
  pub upstream : (text : List ℕ) × HasParts text m.upstream
  pub revision : (text : List ℕ) × HasParts text m.revision

-- Versions are equal only if they mean the same.
abbrev pub EqualOnlyIfSame : Type 0
EqualOnlyIfSame = (a b : Meaning) → HasTexts a → HasTexts b → (version_cmp a b ≡ Equal) ↔ (a ≡ b)

abbrev pub EqualOnlyIfSameSpelled : Type 0
EqualOnlyIfSameSpelled =
    (s t : List ℕ) (a b : Meaning) → SpellsVersion s a → SpellsVersion t b
    → (version_cmp a b ≡ Equal) ↔ (a ≡ b)

-- Versions that are spelled and equal feed a hasher alike.
abbrev pub EqualVersionsHashEqually : Type 0
EqualVersionsHashEqually =
    (s t : List ℕ) (m n : Meaning) → SpellsVersion s m → SpellsVersion t n
    → version_cmp m n ≡ Equal → version_writes m ≡ version_writes n

-- Where two texts first differ, a tilde is before all, also before the end of a text; then
-- comes the end, then letters by their code, then all other bytes by their code.
pub record FirstDifferenceDecides : Type 0 where
  pub tilde_before_end : (front s : List ℕ) → text_cmp (front ++ 126 ∷ s) front ≡ Less
  pub tilde_before_byte : (front s t : List ℕ) (b : ℕ) → b ≢ 126
      → text_cmp (front ++ 126 ∷ s) (front ++ b ∷ t) ≡ Less
  pub end_before_byte : (front t : List ℕ) (b : ℕ) → b ≢ 126
      → text_cmp front (front ++ b ∷ t) ≡ Less
  pub letter_before_other : (front s t : List ℕ) (a b : ℕ) → IsTrue (is_ascii_alphabetic a)
      → IsFalse (is_ascii_alphabetic b) → b ≢ 126
      → text_cmp (front ++ a ∷ s) (front ++ b ∷ t) ≡ Less
  pub letters_by_code : (front s t : List ℕ) (a b : ℕ) → IsTrue (is_ascii_alphabetic a)
      → IsTrue (is_ascii_alphabetic b) → a < b
      → text_cmp (front ++ a ∷ s) (front ++ b ∷ t) ≡ Less
  pub others_by_code : (front s t : List ℕ) (a b : ℕ) → IsFalse (is_ascii_alphabetic a)
      → IsFalse (is_ascii_alphabetic b) → a ≢ 126 → b ≢ 126 → a < b
      → text_cmp (front ++ a ∷ s) (front ++ b ∷ t) ≡ Less

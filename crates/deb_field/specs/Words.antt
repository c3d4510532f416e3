-- The words of a text: the runs of bytes between white space, which is spaces, tabs and newlines.
-- Debian Policy 5.1 (folded fields) and 5.6.8 (architectures).
use Rattle.std.specs.Prelude.{◌≡◌, ℕ, ◌==◌, ◌||◌, not, Bool, List, [], ◌∷◌, length, Option, Some, None, IsTrue, codes, refl}
use Rattle.std.specs.List.{filter, list_all, slice_split, join_with_byte, range_with_len}
use Rattle.deb_base.specs.Bodies.{newline, is_blank_byte}
use Rattle.deb_base.specs.PackageNames.{is_arch_name}
use Rattle.deb_base.specs.declared.code.Code.{Code}
use Rattle.deb_base.specs.declared.code.Code.TheVariants.{BadArchitecture}
use Rattle.deb_field.specs.OneLine.{refusal_unless}

-- a space, a tab or a newline
abbrev pub is_white : ℕ → Bool
is_white b = is_blank_byte b || (b == newline)

abbrev pub is_word : List ℕ → Bool
is_word text = not (length text == 0)

-- what is between white space, without the empty pieces
abbrev pub words_of : List ℕ → List (List ℕ)
words_of text = filter is_word (slice_split is_white text)

-- words with one space between two of them
abbrev pub words_text : List (List ℕ) → List ℕ
words_text words = join_with_byte 32 words

-- the words of a folded field
abbrev pub SpellsFolded : List ℕ → List (List ℕ) → Type 0
SpellsFolded body words = words_of body ≡ words

abbrev pub folded_refusal : List ℕ → Option Code
folded_refusal body = None

-- words that are the names of architectures
abbrev pub SpellsArchitectures : List ℕ → List (List ℕ) → Type 0
SpellsArchitectures body words = (words_of body ≡ words) × IsTrue (list_all is_arch_name words)

abbrev pub architectures_refusal : List ℕ → Option Code
architectures_refusal body = refusal_unless (list_all is_arch_name (words_of body)) BadArchitecture

no_words : (words_of [] ≡ []) × (words_of (codes " \t\n ") ≡ [])
no_words = (refl, refl)

all_white_space : words_of (codes "aa \t bb\n cc\n\tdd")
    ≡ codes "aa" ∷ codes "bb" ∷ codes "cc" ∷ codes "dd" ∷ []
all_white_space = refl

-- a carriage return is no white space
other_bytes : words_of (97 ∷ 13 ∷ 98 ∷ []) ≡ (97 ∷ 13 ∷ 98 ∷ []) ∷ []
other_bytes = refl

text_of_words : words_text (words_of (codes "Aa <a@b>,\n  Bb  <b@b>")) ≡ codes "Aa <a@b>, Bb <b@b>"
text_of_words = refl

architecture_words : (architectures_refusal [] ≡ None)
    × (architectures_refusal (codes "any  all") ≡ None)
    × (architectures_refusal (codes "linux-any\n arm64") ≡ None)
    × (architectures_refusal (codes "any All") ≡ Some BadArchitecture)
architecture_words = (refl, refl, refl, refl)

-- of all bytes those of white space: neither a form feed, nor a vertical tab, nor a carriage return
white_bytes : filter is_white (range_with_len 0 256) ≡ 9 ∷ 10 ∷ 32 ∷ []
white_bytes = refl

form_feed : words_of (97 ∷ 12 ∷ 98 ∷ 11 ∷ 99 ∷ []) ≡ (97 ∷ 12 ∷ 98 ∷ 11 ∷ 99 ∷ []) ∷ []
form_feed = refl

-- words keep their order, and one that comes twice is kept twice
words_in_order : words_text (words_of (codes "b  a\tb")) ≡ codes "b a b"
words_in_order = refl

-- one word that is no architecture is enough, whichever it is
bad_architecture_words : (architectures_refusal (codes "amd64, i386") ≡ Some BadArchitecture)
    × (architectures_refusal (codes "-a any") ≡ Some BadArchitecture)
    × (architectures_refusal (codes "any !i386") ≡ Some BadArchitecture)
bad_architecture_words = (refl, refl, refl)

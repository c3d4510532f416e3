-- The canonical text of a version: a function of its meaning alone, so that spellings of one
-- version have one text. Debian Policy 5.6.12; deb-version(7), "Sorting algorithm".
use Rattle.std.specs.Prelude.{◌≡◌, ℕ, zero, suc, ◌+◌, ◌-◌, ◌==◌, ◌&&◌, Bool, true, false, not, cond, List, [], ◌∷◌, ◌++◌, map, length, slice_get, Option, Some, None, refl, codes}
use Rattle.std.specs.Char.{is_ascii_alphabetic}
use Rattle.std.specs.Int.Digits.{digits_of as digits_in_base}
use Rattle.std.specs.List.{filter, list_any, range_with_len}
use Rattle.std.specs.Option.{option_map_or}
use Rattle.deb_version.specs.Parts.{Part, Meaning, no_revision}
use Rattle.deb_version.specs.Grammar.{Components, spelling, meaning_of_components}

-- a number in decimal digits without leading zeros; 0 is one zero
abbrev pub digits_of : ℕ → List ℕ
digits_of zero = 48 ∷ []
digits_of (suc n) = map (λ digit. 48 + digit) (digits_in_base 10 (suc n))

-- whether the last byte of the text is a letter
abbrev pub ends_in_letter : List ℕ → Bool
ends_in_letter text = option_map_or is_ascii_alphabetic (slice_get text (length text - 1)) false

-- the number of the last part: a zero is left out exactly if the part's text ends in a letter
abbrev pub last_digits_of : Part → List ℕ
last_digits_of part = cond ((part.1 == 0) && ends_in_letter part.0) [] (digits_of part.1)

-- an upstream version or a revision: each text, followed by its number
abbrev pub component_text : List Part → List ℕ
component_text [] = []
component_text (part ∷ []) = part.0 ++ last_digits_of part
component_text (part ∷ next ∷ parts) = part.0 ++ (digits_of part.1 ++ component_text (next ∷ parts))

-- whether the parts are those of an absent revision: one part, of the empty text and 0
abbrev pub is_no_revision : List Part → Bool
is_no_revision [] = false
is_no_revision (part ∷ []) = (length part.0 == 0) && (part.1 == 0)
is_no_revision (part ∷ next ∷ parts) = false

worked-no_revision : is_no_revision no_revision ≡ true
worked-no_revision = refl

-- whether the text holds a colon; a hyphen
abbrev pub holds_colon : List ℕ → Bool
holds_colon text = list_any (λ b. b == 58) text

abbrev pub holds_hyphen : List ℕ → Bool
holds_hyphen text = list_any (λ b. b == 45) text

-- the epoch is written exactly if it isn't 0 or the upstream version holds a colon
abbrev pub canonical_epoch : Meaning → Option (List ℕ)
canonical_epoch m =
    cond ((m.epoch == 0) && not (holds_colon (component_text m.upstream))) None
    (Some (digits_of m.epoch))

-- the revision is written exactly if it isn't that of an absent one or the upstream version holds a
-- hyphen
abbrev pub canonical_revision : Meaning → Option (List ℕ)
canonical_revision m =
    cond (is_no_revision m.revision && not (holds_hyphen (component_text m.upstream))) None
    (Some (component_text m.revision))

abbrev pub canonical_components : Meaning → Components
canonical_components m =
    record {
      epoch = canonical_epoch m;
      upstream = component_text m.upstream;
      revision = canonical_revision m;
    }

-- the canonical text of a version: `[epoch:]upstream[-revision]`
abbrev pub version_text : Meaning → List ℕ
version_text m = spelling (canonical_components m)

-- the bytes, with more after them
abbrev pub Extends : List ℕ → List ℕ → Type 0
Extends old new = (more : List ℕ) × (new ≡ old ++ more)

-- The worked cases: the canonical text of the texts of a version.
abbrev canonical_text_of : Option (List ℕ) → List ℕ → Option (List ℕ) → List ℕ
canonical_text_of epoch upstream revision =
    version_text (meaning_of_components
    (record { epoch = epoch; upstream = upstream; revision = revision }))

-- `0:1.0-0` and `1.00`; `1`
worked-nothing_to_say : canonical_text_of (Some (codes "0")) (codes "1.0") (Some (codes "0"))
    ≡ codes "1.0"
worked-nothing_to_say = refl

worked-long_zero : canonical_text_of None (codes "1.00") None ≡ codes "1.0"
worked-long_zero = refl

worked-one_number : canonical_text_of None (codes "1") None ≡ codes "1"
worked-one_number = refl

worked-zero : canonical_text_of None (codes "0") None ≡ codes "0"
worked-zero = refl

-- `01.0-a00-00`: the revision 0 is written, since the upstream version `1.0-a` holds a hyphen
worked-hyphen : canonical_text_of None (codes "01.0-a00") (Some (codes "00")) ≡ codes "1.0-a-0"
worked-hyphen = refl

-- `00:1:02-0`: the epoch 0 is written, since the upstream version `1:2` holds a colon; `1:2` has
-- the epoch 1
worked-colon : canonical_text_of (Some (codes "00")) (codes "1:02") (Some (codes "0"))
    ≡ codes "0:1:2"
worked-colon = refl

worked-epoch : canonical_text_of (Some (codes "1")) (codes "2") None ≡ codes "1:2"
worked-epoch = refl

-- `1.` and `1+`: the last zero is written after a byte that is no letter; `1a0` and `1a00-0`: it is
-- left out after a letter
worked-dot : canonical_text_of None (codes "1.") None ≡ codes "1.0"
worked-dot = refl

worked-plus : canonical_text_of None (codes "1+") None ≡ codes "1+0"
worked-plus = refl

worked-letter : canonical_text_of None (codes "1a0") None ≡ codes "1a"
worked-letter = refl

worked-letter_zeros : canonical_text_of None (codes "1a00") (Some (codes "0")) ≡ codes "1a"
worked-letter_zeros = refl

-- `1A0`, with a capital letter; `1Z`, `1z`; after `@`, `[`, `` ` `` and `{`, which are beside the
-- letters, the zero is written
worked-capital : canonical_text_of None (codes "1A0") None ≡ codes "1A"
worked-capital = refl

worked-last_letters : map ends_in_letter
    (codes "1A" ∷ codes "1Z" ∷ codes "1a" ∷ codes "1z" ∷ codes "a1" ∷ codes "" ∷ []) ≡ true ∷ true
    ∷ true ∷ true ∷ false ∷ false ∷ []
worked-last_letters = refl

worked-no_letters : map ends_in_letter
    (codes "@" ∷ codes "[" ∷ codes "`" ∷ codes "{" ∷ codes "~" ∷ []) ≡ false ∷ false ∷ false ∷ false
    ∷ false ∷ []
worked-no_letters = refl

-- of all bytes those after which a last zero is left out
worked-all_letters : filter (λ b. ends_in_letter (b ∷ [])) (range_with_len 0 256)
    ≡ codes "ABCDEFGHIJKLMNOPQRSTUVWXYZabcdefghijklmnopqrstuvwxyz"
worked-all_letters = refl

worked-inner_zero : canonical_text_of None (codes "1a0b0") None ≡ codes "1a0b"
worked-inner_zero = refl

worked-tilde : canonical_text_of None (codes "~") None ≡ codes "~0"
worked-tilde = refl

-- `1--1`, whose upstream version is `1-`; `2:1--0`
worked-hyphens : canonical_text_of None (codes "1-") (Some (codes "1")) ≡ codes "1-0-1"
worked-hyphens = refl

worked-hyphens_zero : canonical_text_of (Some (codes "2")) (codes "1-") (Some (codes "0"))
    ≡ codes "2:1-0-0"
worked-hyphens_zero = refl

worked-zeros : canonical_text_of None (codes "01.001") None ≡ codes "1.1"
worked-zeros = refl

-- `1:0-0a` and `1:0-a` differ
worked-zero_first : canonical_text_of (Some (codes "1")) (codes "0") (Some (codes "0a"))
    ≡ codes "1:0-0a"
worked-zero_first = refl

worked-letter_first : canonical_text_of (Some (codes "1")) (codes "0") (Some (codes "a"))
    ≡ codes "1:0-a"
worked-letter_first = refl

-- `1-0.0`: the revision has a further part, so it is written; `1-2`; `1A1`
worked-revision_parts : canonical_text_of None (codes "1") (Some (codes "0.0")) ≡ codes "1-0.0"
worked-revision_parts = refl

worked-revision : canonical_text_of None (codes "1") (Some (codes "02")) ≡ codes "1-2"
worked-revision = refl

worked-letter_number : canonical_text_of None (codes "1A01") None ≡ codes "1A1"
worked-letter_number = refl

-- every digit
worked-digits : map (λ s. canonical_text_of None s None)
    (codes "0123" ∷ codes "0456" ∷ codes "0789" ∷ []) ≡ codes "123" ∷ codes "456" ∷ codes "789" ∷ []
worked-digits = refl

-- an epoch without its leading zeros, and none of an epoch of zeros
worked-zeros_of_epochs : (canonical_text_of (Some (codes "00")) (codes "1") None ≡ codes "1")
    × (canonical_text_of (Some (codes "010")) (codes "1") None ≡ codes "10:1")
    × (canonical_text_of (Some (codes "000")) (codes "1-1") (Some (codes "1")) ≡ codes "1-1-1")
worked-zeros_of_epochs = (refl, refl, refl)

-- a revision of several zeros is that of none, and zeros before a revision's number go
worked-zeros_of_revisions : (canonical_text_of None (codes "1") (Some (codes "000")) ≡ codes "1")
    × (canonical_text_of None (codes "1") (Some (codes "00a00")) ≡ codes "1-0a")
    × (canonical_text_of None (codes "1") (Some (codes "~")) ≡ codes "1-~0")
worked-zeros_of_revisions = (refl, refl, refl)

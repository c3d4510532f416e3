-- The key of a version: bytes whose order, byte by byte, is Debian's order of versions.
-- deb-version(7), "Sorting algorithm". The encoding is this project's.
use Rattle.std.specs.Prelude.{◌≡◌, ℕ, ◌+◌, ◌<◌, ◌==◌, cond, List, [], ◌∷◌, ◌++◌, map, length, nat_lt, Option, Some, None, refl, codes}
use Rattle.std.specs.Char.{is_ascii_alphabetic}
use Rattle.std.specs.Int.Digits.{digits_of as digits_in_base}
use Rattle.std.specs.List.{AllByRecursion, range_with_len}
use Rattle.std.specs.Cmp.Lexicographic.{slice_cmp}
use Rattle.std.specs.Ordering.{nat_cmp}
use Rattle.std.specs.declared.cmp.Ordering.{Ordering}
use Rattle.std.specs.declared.cmp.Ordering.TheVariants.{Less, Equal, Greater}
use Rattle.deb_version.specs.Parts.{Part, Meaning, no_revision}
use Rattle.deb_version.specs.Grammar.{components_with, meaning_of_components}

-- the first byte of each key: the number of this format
abbrev pub key_format : ℕ
key_format = 1

-- the end of a text, and of a component: after a tilde, and before every other byte
abbrev pub key_end : ℕ
key_end = 2

-- a byte of a text: tilde is 1, a letter is its code, any other byte is 128 and its code
abbrev pub byte_key : ℕ → ℕ
byte_key b = cond (b == 126) 1 (cond (is_ascii_alphabetic b) b (b + 128))

-- a count: below 240 it is one byte. Any other is 239 and the number of its bytes, then these
-- bytes, the most significant first
abbrev pub count_key : ℕ → List ℕ
count_key n =
    cond (nat_lt n 240) (n ∷ []) ((239 + length (digits_in_base 256 n)) ∷ digits_in_base 256 n)

-- a number's decimal digits without leading zeros; 0 has none
abbrev pub key_digits : ℕ → List ℕ
key_digits n = map (λ digit. 48 + digit) (digits_in_base 10 n)

-- a number: the count of its digits, and the digits
abbrev pub number_key : ℕ → List ℕ
number_key n = count_key (length (key_digits n)) ++ key_digits n

-- a part: its text, the end of the text, and its number
abbrev pub part_key : Part → List ℕ
part_key part = map byte_key part.0 ++ key_end ∷ number_key part.1

-- an upstream version or a revision: its parts, and the end
abbrev pub component_key : List Part → List ℕ
component_key [] = key_end ∷ []
component_key (part ∷ parts) = part_key part ++ component_key parts

-- a version
abbrev pub version_key : Meaning → List ℕ
version_key m =
    key_format ∷ (number_key m.epoch ++ (component_key m.upstream ++ component_key m.revision))

-- the order of bytes, as `memcmp` and databases have it: the first byte that differs decides, and a
-- list that ends there comes first
abbrev pub byte_order : List ℕ → List ℕ → Ordering
byte_order = slice_cmp nat_cmp

-- the bytes that the key of a text is made for: those of ASCII, as all bytes of versions are
abbrev pub AreAscii : List ℕ → Type 0
AreAscii text = AllByRecursion (λ b. b < 128) text

-- The worked cases. A count is one byte up to 239. Then come two bytes, three from 256 on.
worked-counts : map count_key (0 ∷ 1 ∷ 239 ∷ []) ≡ (0 ∷ []) ∷ (1 ∷ []) ∷ (239 ∷ []) ∷ []
worked-counts = refl

worked-long_counts : map count_key (240 ∷ 255 ∷ 256 ∷ 515 ∷ [])
    ≡ (240 ∷ 240 ∷ []) ∷ (240 ∷ 255 ∷ []) ∷ (241 ∷ 1 ∷ 0 ∷ []) ∷ (241 ∷ 2 ∷ 3 ∷ []) ∷ []
worked-long_counts = refl

-- 0 has no digits; 7; 10; 205
worked-numbers : map number_key (0 ∷ 7 ∷ 10 ∷ 205 ∷ [])
    ≡ (0 ∷ []) ∷ (1 ∷ codes "7") ∷ (2 ∷ codes "10") ∷ (3 ∷ codes "205") ∷ []
worked-numbers = refl

-- tilde before the end, the end before letters, letters before all others
worked-bytes : map byte_key (codes "~AZaz+-.:")
    ≡ 1 ∷ 65 ∷ 90 ∷ 97 ∷ 122 ∷ 171 ∷ 173 ∷ 174 ∷ 186 ∷ []
worked-bytes = refl

-- each byte of an upstream version that is no digit, ascending
worked-all_bytes : map byte_key
    (codes "~ABCDEFGHIJKLMNOPQRSTUVWXYZabcdefghijklmnopqrstuvwxyz+-.:")
    ≡ 1 ∷ range_with_len 65 26 ++ (range_with_len 97 26 ++ 171 ∷ 173 ∷ 174 ∷ 186 ∷ [])
worked-all_bytes = refl

worked-part : part_key (codes "~rc", 1) ≡ 1 ∷ 114 ∷ 99 ∷ 2 ∷ 1 ∷ 49 ∷ []
worked-part = refl

worked-components : map component_key
    (no_revision ∷ (([], 1) ∷ (codes ".", 0) ∷ []) ∷ ((codes "a", 0) ∷ []) ∷ [])
    ≡ (2 ∷ 0 ∷ 2 ∷ []) ∷ (2 ∷ 1 ∷ 49 ∷ 174 ∷ 2 ∷ 0 ∷ 2 ∷ []) ∷ (97 ∷ 2 ∷ 0 ∷ 2 ∷ []) ∷ []
worked-components = refl

-- the key of the texts of a version
abbrev key_of : Option (List ℕ) → List ℕ → Option (List ℕ) → List ℕ
key_of epoch upstream revision =
    version_key (meaning_of_components (components_with epoch upstream revision))

-- the first byte that differs decides; a list that ends there comes first
worked-byte_order : (byte_order (1 ∷ 9 ∷ []) (2 ∷ []) ≡ Less)
    × (byte_order (1 ∷ []) (1 ∷ 0 ∷ []) ≡ Less) × (byte_order (2 ∷ []) (1 ∷ 9 ∷ []) ≡ Greater)
worked-byte_order = (refl, refl, refl)

-- the key of an upstream version alone
abbrev upstream_key : List ℕ → List ℕ
upstream_key upstream = key_of None upstream None

-- ascending, as the versions: 1~~, 1~, 1, 1a, 1+; 1.9, 1.10; 1.0~rc1, 1.0; 1, 1.0
worked-order : (byte_order (upstream_key (codes "1~~")) (upstream_key (codes "1~")) ≡ Less)
    × (byte_order (upstream_key (codes "1~")) (upstream_key (codes "1")) ≡ Less)
    × (byte_order (upstream_key (codes "1")) (upstream_key (codes "1a")) ≡ Less)
    × (byte_order (upstream_key (codes "1a")) (upstream_key (codes "1+")) ≡ Less)
    × (byte_order (upstream_key (codes "1.9")) (upstream_key (codes "1.10")) ≡ Less)
    × (byte_order (upstream_key (codes "1.0~rc1")) (upstream_key (codes "1.0")) ≡ Less)
    × (byte_order (upstream_key (codes "1")) (upstream_key (codes "1.0")) ≡ Less)
worked-order = (refl, refl, refl, refl, refl, refl, refl)

-- 1.0~rc1-1 before 1.0; 1-~ before 1; 9:z before 10:a; 1.0 and 0:1.00-0 have one key
worked-revisions_and_epochs : (byte_order (key_of None (codes "1.0~rc1") (Some (codes "1")))
    (upstream_key (codes "1.0")) ≡ Less)
    × (byte_order (key_of None (codes "1") (Some (codes "~"))) (upstream_key (codes "1")) ≡ Less)
    × (byte_order (key_of (Some (codes "9")) (codes "z") None)
    (key_of (Some (codes "10")) (codes "a") None) ≡ Less)
    × (byte_order (upstream_key (codes "1.0"))
    (key_of (Some (codes "0")) (codes "1.00") (Some (codes "0"))) ≡ Equal)
worked-revisions_and_epochs = (refl, refl, refl, refl)

-- a table of keys, ascending, but for the first two, which are one version
-- 0: 01 00 02 00 02 02 00 02
worked-key_of_zero : key_of None (codes "0") None
    ≡ 1 ∷ 0 ∷ 2 ∷ 0 ∷ 2 ∷ 2 ∷ 0 ∷ 2 ∷ []
worked-key_of_zero = refl

-- 00-0: 01 00 02 00 02 02 00 02
worked-key_of_zeros : key_of None (codes "00") (Some (codes "0"))
    ≡ 1 ∷ 0 ∷ 2 ∷ 0 ∷ 2 ∷ 2 ∷ 0 ∷ 2 ∷ []
worked-key_of_zeros = refl

-- 1~: 01 00 02 01 31 01 02 00 02 02 00 02
worked-key_of_tilde : key_of None (codes "1~") None
    ≡ 1 ∷ 0 ∷ 2 ∷ 1 ∷ 49 ∷ 1 ∷ 2 ∷ 0 ∷ 2 ∷ 2 ∷ 0 ∷ 2 ∷ []
worked-key_of_tilde = refl

-- 1: 01 00 02 01 31 02 02 00 02
worked-key_of_one : key_of None (codes "1") None
    ≡ 1 ∷ 0 ∷ 2 ∷ 1 ∷ 49 ∷ 2 ∷ 2 ∷ 0 ∷ 2 ∷ []
worked-key_of_one = refl

-- 1a: 01 00 02 01 31 61 02 00 02 02 00 02
worked-key_of_letter : key_of None (codes "1a") None
    ≡ 1 ∷ 0 ∷ 2 ∷ 1 ∷ 49 ∷ 97 ∷ 2 ∷ 0 ∷ 2 ∷ 2 ∷ 0 ∷ 2 ∷ []
worked-key_of_letter = refl

-- 1+: 01 00 02 01 31 ab 02 00 02 02 00 02
worked-key_of_other : key_of None (codes "1+") None
    ≡ 1 ∷ 0 ∷ 2 ∷ 1 ∷ 49 ∷ 171 ∷ 2 ∷ 0 ∷ 2 ∷ 2 ∷ 0 ∷ 2 ∷ []
worked-key_of_other = refl

-- 1.0~rc1: 01 00 02 01 31 ae 02 00 01 72 63 02 01 31 02 02 00 02
worked-key_of_candidate : key_of None (codes "1.0~rc1") None
    ≡ 1 ∷ 0 ∷ 2 ∷ 1 ∷ 49 ∷ 174 ∷ 2 ∷ 0 ∷ 1 ∷ 114 ∷ 99 ∷ 2 ∷ 1 ∷ 49 ∷ 2 ∷ 2 ∷ 0 ∷ 2 ∷ []
worked-key_of_candidate = refl

-- 1.0: 01 00 02 01 31 ae 02 00 02 02 00 02
worked-key_of_dot : key_of None (codes "1.0") None
    ≡ 1 ∷ 0 ∷ 2 ∷ 1 ∷ 49 ∷ 174 ∷ 2 ∷ 0 ∷ 2 ∷ 2 ∷ 0 ∷ 2 ∷ []
worked-key_of_dot = refl

-- 1.0-1: 01 00 02 01 31 ae 02 00 02 02 01 31 02
worked-key_of_revision : key_of None (codes "1.0") (Some (codes "1"))
    ≡ 1 ∷ 0 ∷ 2 ∷ 1 ∷ 49 ∷ 174 ∷ 2 ∷ 0 ∷ 2 ∷ 2 ∷ 1 ∷ 49 ∷ 2 ∷ []
worked-key_of_revision = refl

-- 1.9: 01 00 02 01 31 ae 02 01 39 02 02 00 02
worked-key_of_nine : key_of None (codes "1.9") None
    ≡ 1 ∷ 0 ∷ 2 ∷ 1 ∷ 49 ∷ 174 ∷ 2 ∷ 1 ∷ 57 ∷ 2 ∷ 2 ∷ 0 ∷ 2 ∷ []
worked-key_of_nine = refl

-- 1.10: 01 00 02 01 31 ae 02 02 31 30 02 02 00 02
worked-key_of_ten : key_of None (codes "1.10") None
    ≡ 1 ∷ 0 ∷ 2 ∷ 1 ∷ 49 ∷ 174 ∷ 2 ∷ 2 ∷ 49 ∷ 48 ∷ 2 ∷ 2 ∷ 0 ∷ 2 ∷ []
worked-key_of_ten = refl

-- 2:1.0-3: 01 01 32 02 01 31 ae 02 00 02 02 01 33 02
worked-key_of_epoch : key_of (Some (codes "2")) (codes "1.0") (Some (codes "3"))
    ≡ 1 ∷ 1 ∷ 50 ∷ 2 ∷ 1 ∷ 49 ∷ 174 ∷ 2 ∷ 0 ∷ 2 ∷ 2 ∷ 1 ∷ 51 ∷ 2 ∷ []
worked-key_of_epoch = refl

-- The names of fields as they may be spelled. Debian Policy 5.1; deb822(5), "Syntax".
use Rattle.std.specs.Prelude.{◌≡◌, ℕ, ◌==◌, ◌&&◌, Bool, true, false, not, List, [], ◌∷◌, ◌++◌, nat_le, codes, refl}
use Rattle.std.specs.List.{list_all, filter, range_with_len}

-- the byte between a name and a body
abbrev pub colon : ℕ
colon = 58

-- the bytes from `!` to `~` without the colon
abbrev pub is_name_byte : ℕ → Bool
is_name_byte b = nat_le 33 b && nat_le b 126 && not (b == colon)

-- neither `#` nor `-`
abbrev pub may_begin_name : ℕ → Bool
may_begin_name b = not (b == 35) && not (b == 45)

-- one or more bytes that a name may have, and the first one may begin a name
abbrev pub is_name : List ℕ → Bool
is_name [] = false
is_name (b ∷ bs) = may_begin_name b && list_all is_name_byte (b ∷ bs)

name_of_hyphens : is_name (codes "x--1A") ≡ true
name_of_hyphens = refl

-- the first and the last byte that a name may have, and those beside the colon
name_of_ends : (is_name (codes "!~9;") ≡ true) × (is_name (codes "a#-") ≡ true)
name_of_ends = (refl, refl)

no_name : (is_name [] ≡ false) × (is_name (codes "#x") ≡ false) × (is_name (codes "-x") ≡ false)
no_name = (refl, refl, refl)

-- a space, a colon, the byte after `~`, and a byte that isn't ASCII
other_byte_in_name : (is_name (codes "Package ") ≡ false) × (is_name (codes "a:b") ≡ false)
    × (is_name (97 ∷ 127 ∷ []) ≡ false) × (is_name (97 ∷ 195 ∷ 169 ∷ []) ≡ false)
other_byte_in_name = (refl, refl, refl, refl)

-- of all bytes those that a name may have: from `!` to `~`, but not the colon
bytes_of_names : filter is_name_byte (range_with_len 0 256)
    ≡ codes "!\"#$%&'()*+,-./0123456789;<=>?@ABCDEFGHIJKLMNOPQRSTUVWXYZ[\\]^_`"
    ++ codes "abcdefghijklmnopqrstuvwxyz{|}~"
bytes_of_names = refl

-- and those that may not begin one
bytes_not_first : filter (λ b. not (may_begin_name b)) (range_with_len 0 256) ≡ codes "#-"
bytes_not_first = refl

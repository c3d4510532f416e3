-- The names that values are made of: of packages (Debian Policy 5.6.1), of architectures and
-- qualifiers (5.6.8, 7.1; 11.1 for wildcards), and of build profiles (this project's own).
use Rattle.std.specs.Prelude.{◌≡◌, ℕ, ◌==◌, ◌&&◌, ◌||◌, Bool, true, false, List, [], ◌∷◌, length, nat_le, codes, refl}
use Rattle.std.specs.List.{list_all, list_any, filter, range_with_len, slice_split}
use Rattle.std.specs.Str.{bytes_eq}

-- `a` to `z`, and `0` to `9`
abbrev pub is_small_or_digit : ℕ → Bool
is_small_or_digit b = (nat_le 97 b && nat_le b 122) || (nat_le 48 b && nat_le b 57)

-- a letter or digit comes first
abbrev pub begins_small_or_digit : List ℕ → Bool
begins_small_or_digit [] = false
begins_small_or_digit (b ∷ bs) = is_small_or_digit b

-- a small letter, a digit, or one of `+`, `-` and `.`
abbrev pub is_package_byte : ℕ → Bool
is_package_byte b = is_small_or_digit b || (b == 43) || (b == 45) || (b == 46)

-- a small letter, a digit or a hyphen
abbrev pub is_arch_byte : ℕ → Bool
is_arch_byte b = is_small_or_digit b || (b == 45)

-- the name of a package: at least two bytes, the first a letter or digit
abbrev pub is_package_name : List ℕ → Bool
is_package_name name =
    nat_le 2 (length name) && begins_small_or_digit name && list_all is_package_byte name

-- the name of an architecture, or a qualifier
abbrev pub is_arch_name : List ℕ → Bool
is_arch_name name = begins_small_or_digit name && list_all is_arch_byte name

-- the name of a build profile: it has the bytes of a package's name
abbrev pub is_profile_name : List ℕ → Bool
is_profile_name name = begins_small_or_digit name && list_all is_package_byte name

-- the parts of a name between its hyphens
abbrev pub hyphen_parts : List ℕ → List (List ℕ)
hyphen_parts name = slice_split (λ b. b == 45) name

abbrev pub is_any : List ℕ → Bool
is_any part = bytes_eq part (codes "any")

-- an architecture wildcard: `any` is among the parts of the name
abbrev pub is_wildcard : List ℕ → Bool
is_wildcard name = is_arch_name name && list_any is_any (hyphen_parts name)

-- of all bytes those that may come first, and those that a name of each sort may have
first_bytes : filter is_small_or_digit (range_with_len 0 256)
    ≡ codes "0123456789abcdefghijklmnopqrstuvwxyz"
first_bytes = refl

bytes_of_packages : filter is_package_byte (range_with_len 0 256)
    ≡ codes "+-.0123456789abcdefghijklmnopqrstuvwxyz"
bytes_of_packages = refl

bytes_of_architectures : filter is_arch_byte (range_with_len 0 256)
    ≡ codes "-0123456789abcdefghijklmnopqrstuvwxyz"
bytes_of_architectures = refl

package_names : (is_package_name (codes "g++") ≡ true) × (is_package_name (codes "0ad") ≡ true)
    × (is_package_name (codes "az09") ≡ true) × (is_package_name (codes "lib-x.y+z") ≡ true)
package_names = (refl, refl, refl, refl)

-- none, one alone, a first byte that is none of a name's first ones
short_package_names : (is_package_name [] ≡ false) × (is_package_name (codes "a") ≡ false)
    × (is_package_name (codes "+a") ≡ false) × (is_package_name (codes "-a") ≡ false)
    × (is_package_name (codes ".a") ≡ false)
short_package_names = (refl, refl, refl, refl, refl)

-- a capital letter, an underscore, a colon, a tilde, and the bytes beside the letters and digits
bad_package_names : (is_package_name (codes "aA") ≡ false) × (is_package_name (codes "a_b") ≡ false)
    × (is_package_name (codes "a:b") ≡ false) × (is_package_name (codes "a~") ≡ false)
    × (is_package_name (codes "a/") ≡ false) × (is_package_name (codes "a`") ≡ false)
    × (is_package_name (codes "a{") ≡ false) × (is_package_name (codes "a,") ≡ false)
    × (is_package_name (97 ∷ 195 ∷ 169 ∷ []) ≡ false)
bad_package_names = (refl, refl, refl, refl, refl, refl, refl, refl, refl)

arch_names : (is_arch_name (codes "amd64") ≡ true) × (is_arch_name (codes "kfreebsd-amd64") ≡ true)
    × (is_arch_name (codes "x") ≡ true) × (is_arch_name (codes "3") ≡ true)
    × (is_arch_name (codes "a-") ≡ true)
arch_names = (refl, refl, refl, refl, refl)

bad_arch_names : (is_arch_name [] ≡ false) × (is_arch_name (codes "-a") ≡ false)
    × (is_arch_name (codes "a+") ≡ false) × (is_arch_name (codes "a.") ≡ false)
    × (is_arch_name (codes "I386") ≡ false) × (is_arch_name (codes "!a") ≡ false)
bad_arch_names = (refl, refl, refl, refl, refl, refl)

profile_names : (is_profile_name (codes "nocheck") ≡ true)
    × (is_profile_name (codes "pkg.x+y-z") ≡ true) × (is_profile_name (codes "x") ≡ true)
    × (is_profile_name (codes "1") ≡ true)
profile_names = (refl, refl, refl, refl)

bad_profile_names : (is_profile_name [] ≡ false) × (is_profile_name (codes "No") ≡ false)
    × (is_profile_name (codes ".x") ≡ false) × (is_profile_name (codes "+x") ≡ false)
    × (is_profile_name (codes "-x") ≡ false) × (is_profile_name (codes "x_") ≡ false)
bad_profile_names = (refl, refl, refl, refl, refl, refl)

parts_of_name : hyphen_parts (codes "a--b-") ≡ codes "a" ∷ [] ∷ codes "b" ∷ [] ∷ []
parts_of_name = refl

wildcards : (is_wildcard (codes "any") ≡ true) × (is_wildcard (codes "linux-any") ≡ true)
    × (is_wildcard (codes "any-amd64") ≡ true) × (is_wildcard (codes "gnu-any-amd64") ≡ true)
wildcards = (refl, refl, refl, refl)

no_wildcards : (is_wildcard (codes "all") ≡ false) × (is_wildcard (codes "anyx") ≡ false)
    × (is_wildcard (codes "linux-many") ≡ false) × (is_wildcard (codes "an-y") ≡ false)
    × (is_wildcard (codes "-any") ≡ false) × (is_wildcard (codes "any+") ≡ false)
    × (is_wildcard [] ≡ false)
no_wildcards = (refl, refl, refl, refl, refl, refl, refl)

-- the last byte may be any that a name may have
last_bytes : (is_package_name (codes "aa-") ≡ true) × (is_package_name (codes "a.") ≡ true)
    × (is_package_name (codes "a+") ≡ true) × (is_profile_name (codes "x-") ≡ true)
    × (is_profile_name (codes "x.") ≡ true) × (is_profile_name (codes "x+") ≡ true)
last_bytes = (refl, refl, refl, refl, refl, refl)

-- a byte comes again, and a name of two bytes is the shortest
repeated_bytes : (is_package_name (codes "a--..++a") ≡ true) × (is_package_name (codes "00") ≡ true)
    × (is_arch_name (codes "a--9-") ≡ true) × (is_profile_name (codes "9..-+x") ≡ true)
repeated_bytes = (refl, refl, refl, refl)

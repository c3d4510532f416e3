-- What a text begins with. Debian Policy 5.6.12.
use Rattle.std.specs.Prelude.{◌≡◌, ℕ, Bool, ◌&&◌, not, List, [], take, map, ◌∷◌, codes, refl}
use Rattle.std.specs.Char.{is_ascii_digit}
use Rattle.std.specs.List.{filter, prefix_len, range_with_len}
use Rattle.deb_version.specs.Grammar.{is_revision_byte}

-- the bytes of a revision that are no digits: letters, `+`, `.` and `~`
abbrev pub is_text_byte : ℕ → Bool
is_text_byte b = is_revision_byte b && not (is_ascii_digit b)

-- the longest run of bytes of a revision
abbrev pub revision_front : List ℕ → List ℕ
revision_front text = take (prefix_len is_revision_byte text) text

worked-fronts : map revision_front
    (codes "1.0~rc1-2" ∷ codes "2:1" ∷ codes "1+b2)" ∷ codes "-1" ∷ codes "" ∷ [])
    ≡ codes "1.0~rc1" ∷ codes "2" ∷ codes "1+b2" ∷ [] ∷ [] ∷ []
worked-fronts = refl

worked-text_bytes : filter is_text_byte (range_with_len 0 256)
    ≡ codes "+.ABCDEFGHIJKLMNOPQRSTUVWXYZabcdefghijklmnopqrstuvwxyz~"
worked-text_bytes = refl

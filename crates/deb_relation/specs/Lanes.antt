-- The lowest bit of a mask with a bit for each of 16 bytes.
use Rattle.std.specs.Prelude.{◌≡◌, ℕ, ◌==◌, if◌then◌else◌, refl}
use Rattle.std.specs.Int.{w64, trailing_zeros}

-- the number of the lowest bit that is set, or 16 where none is
abbrev pub first_set : ℕ → ℕ
first_set mask = if mask == 0 then 16 else trailing_zeros w64 mask

lowest_bits : (first_set 0 ≡ 16) × (first_set 1 ≡ 0) × (first_set 12 ≡ 2)
    × (first_set 32768 ≡ 15)
unfolding lib.Count.count_trailing_zeros
lowest_bits = (refl, refl, refl, refl)

-- Parts of lists.
use Rattle.std.specs.Prelude.{◌≡◌, ℕ, ◌-◌, List, [], take, drop, codes, refl}

-- what is between two offsets
abbrev pub part : {A : Type 0} → ℕ → ℕ → List A → List A
part start end all = take (end - start) (drop start all)

-- a part, the last bytes, an empty part, and offsets beyond the end
worked-parts : (part 1 3 (codes "abcd") ≡ codes "bc") × (part 2 4 (codes "abcd") ≡ codes "cd")
    × (part 2 2 (codes "abcd") ≡ []) × (part 3 9 (codes "abcd") ≡ codes "d")
    × (part 5 9 (codes "abcd") ≡ []) × (part 3 1 (codes "abcd") ≡ [])
worked-parts = (refl, refl, refl, refl, refl, refl)

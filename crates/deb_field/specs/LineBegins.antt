-- Whether a text begins with a newline, so that it is on the lines below the name of its field.
-- Debian Policy 5.1.
use Rattle.std.specs.Prelude.{◌≡◌, ℕ, ◌==◌, Bool, true, false, List, [], ◌∷◌, codes, refl}
use Rattle.deb_base.specs.Bodies.{newline}

abbrev pub begins_with_newline : List ℕ → Bool
begins_with_newline [] = false
begins_with_newline (b ∷ bs) = b == newline

below_the_name : (begins_with_newline (codes "\n aa") ≡ true)
    × (begins_with_newline (codes "aa\n bb") ≡ false) × (begins_with_newline [] ≡ false)
below_the_name = (refl, refl, refl)

-- The names that a package provides, in byte order: so the entries of one name are neighbours.
use Rattle.std.specs.Prelude.{◌≡◌, ℕ, List, true, false, codes, refl}
use Rattle.std.specs.Ordering.{is_gt}
use Rattle.deb_relation.specs.Sets.{byte_cmp}

-- a name that doesn't come after another
abbrev pub IsNotAfter : List ℕ → List ℕ → Type 0
IsNotAfter name other = is_gt (byte_cmp name other) ≡ false

-- of two names, one of which begins the other
names_in_order : (IsNotAfter (codes "a") (codes "ab") ≡ (false ≡ false))
    × (IsNotAfter (codes "ab") (codes "ab") ≡ (false ≡ false))
    × (IsNotAfter (codes "ab") (codes "a") ≡ (true ≡ false))
names_in_order = (refl, refl, refl)

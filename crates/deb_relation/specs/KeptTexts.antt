-- The bytes of a text that is kept, borrowed or owned.
use Rattle.std.specs.Prelude.{◌≡◌, ℕ, List, codes, refl}
use Rattle.deb_relation.specs.declared.kept_text.KeptText.{KeptText}
use Rattle.deb_relation.specs.declared.kept_text.KeptText.TheVariants.{Lent, Owned}
use Rattle.deb_base.specs.Literals.{lent, vector}

abbrev pub bytes_of : KeptText → List ℕ
bytes_of (Lent text) = text.now
bytes_of (Owned text) = text.items

worked-bytes : (bytes_of (Lent (lent (codes "aa"))) ≡ codes "aa")
    × (bytes_of (Owned (vector (codes "bb") refl)) ≡ codes "bb")
worked-bytes = (refl, refl)

-- An alternative that has at most a bound. Debian Policy 7.1.
use Rattle.std.specs.Prelude.{◌≡◌, ℕ, List, [], Option, Some, None, codes, refl}
use Rattle.deb_version.specs.Parts.{Meaning as Version}
use Rattle.deb_version.specs.Places.{version_in}
use Rattle.deb_relation.specs.Meaning.{Alternative}
use Rattle.deb_relation.specs.declared.operator.Op.{Op}
use Rattle.deb_relation.specs.declared.operator.Op.TheVariants.{LaterEqual}
use Rattle.deb_index.specs.Alternatives.{alone, with_bound}

abbrev pub plain : List ℕ → Option (Op × Version) → Alternative
plain name bound =
    record { name = name; qualifier = None; bound = bound; architectures = None; formula = [] }

-- a name alone, and one with a bound
worked-plain : (plain (codes "aa") None ≡ alone (codes "aa"))
    × (plain (codes "aa") (Some (LaterEqual, version_in (codes "2")))
    ≡ with_bound (codes "aa") LaterEqual (codes "2"))
worked-plain = (refl, refl)

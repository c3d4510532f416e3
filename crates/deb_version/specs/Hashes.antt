-- What a version feeds a hasher: a function of its meaning, so that equal versions feed alike.
use Rattle.std.specs.Prelude.{◌≡◌, List, [], ◌∷◌, ◌++◌, codes, refl}
use Rattle.std.specs.Hash as fed
use Rattle.std.specs.Hash.{HashWrites}
use Rattle.deb_version.specs.Canonical.{digits_of}
use Rattle.deb_version.specs.Parts.{Part, Meaning, no_revision, parts_of}

-- the texts and numbers in turns, and then the end, which no text holds
abbrev pub component_writes : List Part → HashWrites
component_writes [] = fed.u8 255
component_writes (part ∷ parts) = part.0 ∷ digits_of part.1 ∷ component_writes parts

abbrev pub version_writes : Meaning → HashWrites
version_writes m =
    digits_of m.epoch ∷ (component_writes m.upstream ++ component_writes m.revision)

-- 0:1.01
worked-writes : version_writes
    (record { epoch = 0; upstream = parts_of (codes "1.01"); revision = no_revision })
    ≡ codes "0" ∷ [] ∷ codes "1" ∷ codes "." ∷ codes "1" ∷ (255 ∷ []) ∷ [] ∷ codes "0" ∷ (255 ∷ [])
    ∷ []
worked-writes = refl

-- 1:a2-03
worked-writes_of_revision : version_writes
    (record { epoch = 1; upstream = parts_of (codes "a2"); revision = parts_of (codes "03") })
    ≡ codes "1" ∷ codes "a" ∷ codes "2" ∷ (255 ∷ []) ∷ [] ∷ codes "3" ∷ (255 ∷ []) ∷ []
worked-writes_of_revision = refl

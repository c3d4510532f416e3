-- What is answered to a program in C of the parts of a version: Debian Policy 5.6.12. The numbers
-- are this project's own.
use Rattle.std.specs.Prelude.{◌≡◌, ℕ, Bool, true, false, List, Option, Some, None, is_some, length, IsTrue, codes, refl}
use Rattle.deb_version.specs.Grammar.{Components, are_components, components_with, revision_at, spelling, upstream_at}
use Rattle.debctl_ffi.specs.declared.version_parts.VersionParts.{VersionParts}

-- the number of C that says whether a part is there
abbrev pub flag : Bool → ℕ
flag true = 1
flag false = 0

flags : (flag true ≡ 1) × (flag false ≡ 0)
flags = (refl, refl)

-- the length of a part, and its offset: 0 if it isn't there
abbrev pub part_length : Option (List ℕ) → ℕ
part_length None = 0
part_length (Some part) = length part

abbrev pub part_at : ℕ → Option (List ℕ) → ℕ
part_at at None = 0
part_at at (Some part) = at

abbrev pub parts_of : Components → VersionParts
parts_of c =
    record {
      status = 0;
      code = 0;
      has_epoch = flag (is_some c.epoch);
      has_revision = flag (is_some c.revision);
      epoch_length = part_length c.epoch;
      upstream = upstream_at c;
      upstream_length = length c.upstream;
      revision = part_at (revision_at c) c.revision;
      revision_length = part_length c.revision;
    }

-- of a text that isn't a version
abbrev pub no_parts : VersionParts
no_parts =
    record {
      status = 2;
      code = 18;
      has_epoch = 0;
      has_revision = 0;
      epoch_length = 0;
      upstream = 0;
      upstream_length = 0;
      revision = 0;
      revision_length = 0;
    }

-- The text is a version, which these components spell, and these are their offsets and lengths.
pub record HasParts (text : List ℕ) (parts : VersionParts) : Type 0 where
  pub components : Components
  pub spelled : text ≡ spelling components
  pub allowed : IsTrue (are_components components)
  pub is : parts ≡ parts_of components

-- 12:3.4-5-67 and 1.0
worked-all : parts_of
    (components_with (Some (codes "12")) (codes "3.4-5") (Some (codes "67")))
    ≡ record {
      status = 0;
      code = 0;
      has_epoch = 1;
      has_revision = 1;
      epoch_length = 2;
      upstream = 3;
      upstream_length = 5;
      revision = 9;
      revision_length = 2;
    }
worked-all = refl

worked-upstream : parts_of (components_with None (codes "1.0") None)
    ≡ record {
      status = 0;
      code = 0;
      has_epoch = 0;
      has_revision = 0;
      epoch_length = 0;
      upstream = 0;
      upstream_length = 3;
      revision = 0;
      revision_length = 0;
    }
worked-upstream = refl

worked-none : (no_parts.status ≡ 2) × (no_parts.code ≡ 18)
worked-none = (refl, refl)

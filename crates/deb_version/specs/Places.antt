-- The offsets of the epoch, the upstream version and the revision of a text, allowed or not.
-- Debian Policy 5.6.12: the epoch ends at the first colon; the revision follows the last hyphen
-- after that.
use Rattle.std.specs.Prelude.{◌≡◌, ℕ, ◌==◌, Bool, List, [], ◌∷◌, Option, Some, None, if◌then◌else◌, codes, refl}
use Rattle.std.specs.List.{list_any, before_first, after_first, before_last, after_last}
use Rattle.deb_version.specs.Grammar.{Components, meaning_of_components}
use Rattle.deb_version.specs.Parts.{Meaning}

abbrev pub is_colon : ℕ → Bool
is_colon b = b == 58

abbrev pub is_hyphen : ℕ → Bool
is_hyphen b = b == 45

-- the epoch is what precedes the first colon, if there is a colon
abbrev pub epoch_in : List ℕ → Option (List ℕ)
epoch_in text = if list_any is_colon text then Some (before_first is_colon text) else None

-- what follows the epoch and its colon
abbrev pub rest_in : List ℕ → List ℕ
rest_in text = if list_any is_colon text then after_first is_colon text else text

-- in what follows the epoch, the revision is what follows the last hyphen, if there is a hyphen
abbrev pub revision_in : List ℕ → Option (List ℕ)
revision_in rest = if list_any is_hyphen rest then Some (after_last is_hyphen rest) else None

-- and the upstream version is what precedes that hyphen
abbrev pub upstream_in : List ℕ → List ℕ
upstream_in rest = if list_any is_hyphen rest then before_last is_hyphen rest else rest

abbrev pub components_in : List ℕ → Components
components_in text =
    record {
      epoch = epoch_in text;
      upstream = upstream_in (rest_in text);
      revision = revision_in
          (rest_in text);
    }

-- the version that a text spells, if it spells one: what the components that are in it mean
abbrev pub version_in : List ℕ → Meaning
version_in text = meaning_of_components (components_in text)

-- 2:1--0, 1.0 and 1:2-3:4
worked-hyphens : components_in (codes "2:1--0")
    ≡ record { epoch = Some (codes "2"); upstream = codes "1-"; revision = Some (codes "0") }
worked-hyphens = refl

worked-plain : components_in (codes "1.0")
    ≡ record { epoch = None; upstream = codes "1.0"; revision = None }
worked-plain = refl

worked-colons : components_in (codes "1:2-3:4")
    ≡ record { epoch = Some (codes "1"); upstream = codes "2"; revision = Some (codes "3:4") }
worked-colons = refl

-- `1_-` has an empty revision, and the hyphen of `1-2:3` is within its epoch
worked-empty_revision : components_in (codes "1_-")
    ≡ record { epoch = None; upstream = codes "1_"; revision = Some [] }
worked-empty_revision = refl

worked-hyphen_in_epoch : components_in (codes "1-2:3")
    ≡ record { epoch = Some (codes "1-2"); upstream = codes "3"; revision = None }
worked-hyphen_in_epoch = refl

worked-version : version_in (codes "01:1.02-3")
    ≡ record { epoch = 1; upstream = ([], 1) ∷ (codes ".", 2) ∷ []; revision = ([], 3) ∷ [] }
worked-version = refl

-- zeros before an epoch, and an epoch of zeros, which is that of a version without one
worked-zeros : (version_in (codes "000:1") ≡ version_in (codes "1"))
    × ((version_in (codes "010:1")).epoch ≡ 10) × ((version_in (codes "00100:0")).epoch ≡ 100)
worked-zeros = (refl, refl, refl)

-- a colon after the first one is the upstream version's, and so is each hyphen but the last one
worked-later_colons : components_in (codes "1:2:3:4")
    ≡ record { epoch = Some (codes "1"); upstream = codes "2:3:4"; revision = None }
worked-later_colons = refl

worked-later_hyphens : components_in (codes "1-2-3-4")
    ≡ record { epoch = None; upstream = codes "1-2-3"; revision = Some (codes "4") }
worked-later_hyphens = refl

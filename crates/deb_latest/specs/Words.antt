-- What is kept of a paragraph while it is checked. The key of a version is this project's own.
use Rattle.std.specs.Prelude.{◌≡◌, ℕ, List, [], Option, None, Some, codes, refl}
use Rattle.deb_version.specs.Keys.{version_key}
use Rattle.deb_version.specs.Places.{version_in}
use Rattle.deb_field.specs.Values.{ValueMeaning, NameMeans, VersionMeans}
use Rattle.deb_control.specs.ShownValues.{shown_of}
use Rattle.deb_control.specs.Visiting.{Visit}
use Rattle.deb_latest.specs.Entries.{architecture_in, name_in}
use Rattle.deb_latest.specs.declared.words.Words.{Words}

-- the key of the version that a value is, if it is one
abbrev pub version_key_in : Option ValueMeaning → List ℕ
version_key_in (Some (VersionMeans version)) = version_key version
version_key_in other = []

-- The words are those of the values that were visited.
pub record KeepsWords (kept : Words) (visited : List Visit) : Type 0 where
  pub name : kept.name.items ≡ name_in (shown_of visited (codes "Package"))
  pub architecture : kept.architecture.items
      ≡ architecture_in (shown_of visited (codes "Architecture"))
  pub version : kept.version.items ≡ version_key_in (shown_of visited (codes "Version"))

worked-key : (version_key_in (Some (VersionMeans (version_in (codes "1"))))
    ≡ version_key (version_in (codes "01-0")))
    × (version_key_in (Some (NameMeans (codes "1"))) ≡ []) × (version_key_in None ≡ [])
worked-key = (refl, refl, refl)

-- Lemmas that the prover checks: nothing in this file needs to be believed.
--
-- Each `SourceName` is spelled by a body.
use Rattle.std.proofs.Common.{ℕ, IsTrue, List, [], ◌∷◌, ◌++◌, Option, Some, None, refl}
use Rattle.std.specs.Option.{option_map}
use Rattle.deb_base.specs.PackageNames.{is_package_name}
use Rattle.deb_version.specs.declared.version.Version.{Version}
use Rattle.deb_version.specs.Grammar.{spelling}
use Rattle.deb_version.specs.Version.{components_of, meaning_of}
use Rattle.deb_field.specs.Sources.{SpellsSource, source_of}
use Rattle.deb_field.specs.SourceNames.{source_meaning}
use Rattle.deb_field.specs.VersionLaw.{version_spelled}
use Rattle.deb_field.specs.declared.source.SourceName.{SourceName}

spelled : (name : List ℕ) (version : Option Version) → IsTrue (is_package_name name)
    → (body : List ℕ) × SpellsSource body (source_of name (option_map meaning_of version))
spelled name None named = (name, record { spelt = refl; named = named })
spelled name (Some version) named = (
  name ++ (40 ∷ (spelling (components_of version) ++ 41 ∷ [])),
  record {
    gap = [];
    left = [];
    text = spelling (components_of version);
    right = [];
    spelt = refl;
    named = named;
    gap_blank = refl;
    left_blank = refl;
    right_blank = refl;
    versioned = version_spelled version;
  },
)

pub source_spelled : (source : SourceName)
    → (body : List ℕ) × SpellsSource body (source_meaning source)
source_spelled source = spelled source.name.now source.version source.well_formed

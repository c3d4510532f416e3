-- What a `SourceName` means, and what reading around the parenthesis of a body gives.
use Rattle.std.specs.Prelude.{◌≡◌, ℕ, true, List, Some}
use Rattle.std.specs.Option.{option_map}
use Rattle.deb_base.specs.PackageNames.{is_package_name}
use Rattle.deb_version.specs.Parts.{Meaning as VersionMeaning}
use Rattle.deb_version.specs.Grammar.{SpellsVersion}
use Rattle.deb_version.specs.Version.{meaning_of}
use Rattle.deb_field.specs.Sources.{SourceMeaning, source_of, is_closed, without_last}
use Rattle.deb_base.specs.Trimming.{without_trailing_blanks, trimmed}
use Rattle.deb_field.specs.declared.source.SourceName.{SourceName}

abbrev pub source_meaning : SourceName → SourceMeaning
source_meaning source = source_of source.name.now (option_map meaning_of source.version)

-- a name before the parenthesis, a closing one at the end, and a version between them
pub record ReadsAround (before behind : List ℕ) (source : SourceMeaning) : Type 0 where
  pub version : VersionMeaning
  pub is : source ≡ source_of (without_trailing_blanks before) (Some version)
  pub named : is_package_name (without_trailing_blanks before) ≡ true
  pub closed : is_closed behind ≡ true
  pub versioned : SpellsVersion (trimmed (without_last behind)) version

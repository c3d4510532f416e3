-- The lines of one package of a set. Debian Policy 7.2 to 7.5; the form of the lines is this
-- project's own.
use Rattle.std.specs.Prelude.{◌≡◌, ℕ, false, cond, List, [], ◌∷◌, ◌++◌, map, ltb, Some, None, codes, refl}
use Rattle.std.specs.Fmt.{decimal, digits}
use Rattle.std.specs.List.{concat, filter, flat_map}
use Rattle.std.specs.Option.{option_map_or}
use Rattle.deb_version.specs.Canonical.{version_text}
use Rattle.deb_version.specs.Places.{version_in}
use Rattle.deb_relation.specs.Applying.{Environment}
use Rattle.deb_relation.specs.Environments.{environment_with}
use Rattle.deb_relation.specs.Meaning.{Alternative, Group}
use Rattle.deb_relation.specs.Texts.{group_text}
use Rattle.deb_field.specs.Values.{ValueMeaning, NameMeans, VersionMeans, ArchitectureMeans, RelationMeans}
use Rattle.deb_field.specs.declared.flag.MultiArch.TheVariants.{Same}
use Rattle.deb_control.specs.FieldWords.{groups_of, value_under, word_under}
use Rattle.deb_control.specs.ValueFiles.{ValueEntries}
use Rattle.deb_index.specs.Alternatives.{alone, with_list, with_qualifier}
use Rattle.deb_index.specs.Listed.{Listed}
use Rattle.deb_index.specs.Named.{numbers_of, package_at}
use Rattle.deb_index.specs.ReportText.{canonical_version, package_line}
use Rattle.deb_index.specs.Reports.{Numbered}
use Rattle.deb_unmet.specs.Fields.{environment_for, heading, paragraph_lines}
use Rattle.deb_unmet.specs.Readings.{applies_by, may}
use Rattle.deb_unmet.specs.Scopes.{plain}
use Rattle.deb_unmet.specs.declared.applying.Applies.{Applies}
use Rattle.deb_unmet.specs.declared.applying.Applies.TheVariants.{Surely, Maybe, Never}
use Rattle.deb_unmet.specs.declared.asked.Asked.TheVariants.{Packages}
use Rattle.deb_unmet.specs.declared.asked.Strength.{Strength}
use Rattle.deb_unmet.specs.declared.asked.Strength.TheVariants.{Depends}
use Rattle.deb_health.specs.Excluding.{excludes}
use Rattle.deb_health.specs.Together.{rules_out}

-- the line that the package with this number has
abbrev pub line_at : (Numbered → List ℕ) → List Listed → ℕ → List ℕ
line_at line packages number =
    option_map_or (λ p. line (number, p)) (package_at number packages) []

abbrev pub exclusion_word : Applies → List ℕ
exclusion_word Surely = codes "conflict"
exclusion_word Maybe = codes "unsure"
exclusion_word Never = []

-- `WORD NUMBER PACKAGE VERSION ARCHITECTURE FIELD GROUP by`
abbrev pub exclusion_front : Applies → List ℕ → List ℕ → List ℕ → List ℕ
exclusion_front applies heading field text =
    concat (exclusion_word applies ∷ heading ∷ field ∷ codes " " ∷ text ∷ codes " by" ∷ [])

-- and then ` NUMBER PACKAGE VERSION ARCHITECTURE` of the package that is excluded
abbrev pub exclusion_line : List ℕ → Numbered → List ℕ
exclusion_line front p = front ++ package_line canonical_version p

-- An alternative that applies, or may apply, has a line for each package that it excludes.
abbrev pub alternative_lines : Environment → List ℕ → List Listed → List ℕ → List ℕ → List ℕ
    → List ℕ → Alternative → List ℕ
alternative_lines environment target packages name heading field text a =
    cond (may (applies_by environment a))
    (flat_map (line_at
    (exclusion_line (exclusion_front (applies_by environment a) heading field text)) packages)
    (numbers_of (excludes target name a) packages)) []

-- the lines of a group: those of its alternatives, of which Conflicts and Breaks allow one
abbrev pub group_lines : Environment → List ℕ → List Listed → List ℕ → List ℕ → List ℕ → Group
    → List ℕ
group_lines environment target packages name heading field group =
    flat_map
    (alternative_lines environment target packages name heading field (group_text group)) group

abbrev pub negative_fields : List (List ℕ)
negative_fields = codes "Conflicts" ∷ codes "Breaks" ∷ []

-- the lines of Conflicts, then of Breaks
abbrev pub exclusion_lines : Environment → List ℕ → List Listed → List ℕ
    → ValueEntries ValueMeaning → List ℕ
exclusion_lines environment target packages heading values =
    flat_map (λ field. flat_map
    (group_lines environment target packages (word_under (codes "Package") values) heading field)
    (groups_of (value_under field values))) negative_fields

-- `duplicate NUMBER PACKAGE VERSION ARCHITECTURE with NUMBER VERSION ARCHITECTURE`
abbrev pub duplicate_line : List ℕ → Numbered → List ℕ
duplicate_line heading p =
    concat (codes "duplicate" ∷ heading ∷ codes "with " ∷ decimal p.0 ∷ codes " "
    ∷ version_text p.1.version ∷ codes " " ∷ p.1.architecture ∷ codes "\n" ∷ [])

-- A package has a line for each later one of its name that can't be installed together with it.
abbrev pub duplicate_lines : List ℕ → List Listed → List ℕ → ℕ → List ℕ
duplicate_lines target packages heading number =
    option_map_or (λ p. flat_map (line_at (duplicate_line heading) packages)
    (filter (λ other. ltb number other) (numbers_of (rules_out target p) packages)))
    (package_at number packages) []

-- The lines of the package with this number: of its groups that no package meets, of the packages
-- that it excludes, and of later ones of its name.
abbrev pub member_lines : Strength → Environment → List Listed → ℕ → List ℕ
    → ValueEntries ValueMeaning → List ℕ
member_lines strength environment packages number version values =
    paragraph_lines (Packages strength) environment (plain packages) number version values
    ++ (exclusion_lines (environment_for (Packages strength) environment values)
    environment.native packages (heading (Packages strength) number version values) values
    ++ duplicate_lines environment.native packages
    (heading (Packages strength) number version values) number)

-- For amd64: bb excludes cc, vv, which cc provides, and dd, of another architecture, perhaps; it
-- needs ee, which isn't there; and there is a second bb.
abbrev pub listed : List ℕ → List ℕ → List ℕ → Listed
listed name version architecture = record {
  name = name;
  version = version_in version;
  architecture = architecture;
  multi_arch = Some Same;
  provisions = [];
}

abbrev pub packages : List Listed
packages =
    listed (codes "bb") (codes "1.0") (codes "amd64")
    ∷ record {
      name = codes "cc";
      version = version_in (codes "2");
      architecture = codes "all";
      multi_arch = None;
      provisions = record { name = codes "vv"; version = None } ∷ [];
    }
    ∷ listed (codes "dd") (codes "3") (codes "i386")
    ∷ listed (codes "bb") (codes "1.1") (codes "i386")
    ∷ listed (codes "bb") (codes "1.0") (codes "i386") ∷ []

abbrev pub values : ValueEntries ValueMeaning
values =
    (codes "Architecture", ArchitectureMeans (codes "amd64"))
    ∷ (
      codes "Breaks",
      RelationMeans ((with_list (codes "dd") false (codes "linux-any") ∷ [])
          ∷ (with_list (codes "dd") false (codes "i386") ∷ []) ∷ []),
    )
    ∷ (
      codes "Conflicts",
      RelationMeans ((alone (codes "bb") ∷ []) ∷ (alone (codes "cc") ∷ [])
          ∷ (with_qualifier (codes "dd") (codes "amd64") ∷ []) ∷ (alone (codes "vv") ∷ []) ∷ []),
    )
    ∷ (codes "Depends", RelationMeans ((alone (codes "ee") ∷ []) ∷ []))
    ∷ (codes "Package", NameMeans (codes "bb"))
    ∷ (codes "Version", VersionMeans (version_in (codes "1.0"))) ∷ []

worked-member : member_lines Depends (environment_with (codes "amd64") []) packages 1 (codes "1.0")
    values
    ≡ codes "unmet 1 bb 1.0 amd64 Depends ee\n"
    ++ (codes "conflict 1 bb 1.0 amd64 Conflicts cc by 2 cc 2 all\n"
    ++ (codes "conflict 1 bb 1.0 amd64 Conflicts vv by 2 cc 2 all\n"
    ++ (codes "unsure 1 bb 1.0 amd64 Breaks dd [linux-any] by 3 dd 3 i386\n"
    ++ codes "duplicate 1 bb 1.0 amd64 with 4 1.1 i386\n")))
unfolding group_text digits
worked-member = refl

-- each pair of one name has its line at the first of them; a number that no package has, none
worked-duplicates : map (duplicate_lines (codes "amd64") packages (codes " "))
    (2 ∷ 4 ∷ 5 ∷ 6 ∷ [])
    ≡ [] ∷ codes "duplicate with 5 1.0 i386\n" ∷ [] ∷ [] ∷ []
unfolding digits
worked-duplicates = refl

worked-words : map exclusion_word (Surely ∷ Maybe ∷ Never ∷ [])
    ≡ codes "conflict" ∷ codes "unsure" ∷ [] ∷ []
worked-words = refl

-- The lines of one paragraph, by its values. Debian Policy 5.6, 7.2 and 7.7; the form of the lines
-- is this project's own.
use Rattle.std.specs.Prelude.{◌≡◌, ℕ, false, cond, ◌&&◌, List, [], ◌∷◌, ◌++◌, map, Option, Some, None, codes, refl}
use Rattle.std.specs.Fmt.{decimal, digits}
use Rattle.std.specs.List.{concat, flat_map}
use Rattle.deb_version.specs.Places.{version_in}
use Rattle.deb_relation.specs.Applying.{Environment}
use Rattle.deb_relation.specs.Environments.{environment_with, with_target}
use Rattle.deb_relation.specs.Targets.{is_target}
use Rattle.deb_relation.specs.Texts.{group_text}
use Rattle.deb_field.specs.Values.{ValueMeaning, NameMeans, SourceMeans, VersionMeans, ArchitectureMeans, ArchitecturesMean, RelationMeans}
use Rattle.deb_control.specs.FieldWords.{groups_of, value_under, word_under}
use Rattle.deb_control.specs.ValueFiles.{ValueEntries}
use Rattle.deb_index.specs.Alternatives.{alone, with_list}
use Rattle.deb_index.specs.Listed.{Listed}
use Rattle.deb_unmet.specs.Asked.{fields_asked, is_binary, name_field}
use Rattle.deb_unmet.specs.Scopes.{Scope, plain}
use Rattle.deb_unmet.specs.Tried.{is_tried}
use Rattle.deb_unmet.specs.Troubles.{group_lines}
use Rattle.deb_unmet.specs.declared.applying.Applies.{Applies}
use Rattle.deb_unmet.specs.declared.asked.Asked.{Asked}
use Rattle.deb_unmet.specs.declared.asked.Asked.TheVariants.{Packages, Sources, Source}
use Rattle.deb_unmet.specs.declared.asked.SourcesAsked.TheVariants.{OfTarget, All}
use Rattle.deb_unmet.specs.declared.asked.Strength.TheVariants.{Depends, Recommends}

-- the architecture of a binary package, and `source` for a source package
abbrev pub architecture_of : Asked → ValueEntries ValueMeaning → List ℕ
architecture_of asked values =
    cond (is_binary asked) (word_under (codes "Architecture") values) (codes "source")

-- ` NUMBER PACKAGE VERSION ARCHITECTURE `, with this text of the version
abbrev pub heading : Asked → ℕ → List ℕ → ValueEntries ValueMeaning → List ℕ
heading asked number version values =
    concat (codes " " ∷ decimal number ∷ codes " " ∷ word_under (name_field asked) values
    ∷ codes " " ∷ version ∷ codes " " ∷ architecture_of asked values ∷ codes " " ∷ [])

-- The target of a binary package is its architecture if that can be a target, else the one that is
-- asked for: for `all`. That of a source package is the one that is asked for.
abbrev pub own_environment : Asked → Environment → List ℕ → Option Environment
own_environment asked environment architecture =
    cond (is_binary asked && is_target architecture)
    (Some (with_target architecture environment)) None

abbrev pub own_or : Option Environment → Environment → Environment
own_or None environment = environment
own_or (Some own) environment = own

abbrev pub environment_for : Asked → Environment → ValueEntries ValueMeaning → Environment
environment_for asked environment values =
    own_or (own_environment asked environment (architecture_of asked values)) environment

-- the lines of one field
abbrev pub field_lines : Environment → Scope → Applies → List ℕ → List ℕ → Option ValueMeaning
    → List ℕ
field_lines environment scope tried heading field value =
    flat_map (group_lines environment scope tried heading field) (groups_of value)

-- the lines of fields, in their order
abbrev pub fields_lines : Environment → Scope → Applies → List ℕ → ValueEntries ValueMeaning
    → List (List ℕ) → List ℕ
fields_lines environment scope tried heading values fields =
    flat_map
    (λ field. field_lines environment scope tried heading field (value_under field values)) fields

-- the lines of the paragraph of this number, with this text of its version
abbrev pub paragraph_lines : Asked → Environment → Scope → ℕ → List ℕ → ValueEntries ValueMeaning
    → List ℕ
paragraph_lines asked environment scope number version values =
    fields_lines (environment_for asked environment values) scope
    (is_tried asked environment scope.without values) (heading asked number version values) values
    (fields_asked asked)

-- For amd64, over aa in version 1 for amd64 and bb for i386: a package with all fields.
abbrev environment : Environment
environment = environment_with (codes "amd64") []

abbrev listed : List ℕ → List ℕ → Listed
listed name architecture =
    record {
      name = name;
      version = version_in (codes "1");
      architecture = architecture;
      multi_arch = None;
      provisions = [];
    }

abbrev packages : List Listed
packages = listed (codes "aa") (codes "amd64") ∷ listed (codes "bb") (codes "i386") ∷ []

abbrev only : List ℕ → ValueMeaning
only name = RelationMeans ((alone name ∷ []) ∷ [])

abbrev binary : List ℕ → ValueEntries ValueMeaning
binary architecture =
    (codes "Architecture", ArchitectureMeans architecture)
    ∷ (
      codes "Depends",
      RelationMeans ((alone (codes "aa") ∷ []) ∷ (alone (codes "bb") ∷ []) ∷ []),
    )
    ∷ (codes "Package", NameMeans (codes "xx"))
    ∷ (codes "Pre-Depends", only (codes "cc"))
    ∷ (codes "Recommends", only (codes "dd"))
    ∷ (codes "Version", VersionMeans (version_in (codes "0:1.0"))) ∷ []

-- all is for amd64, where aa is; without Recommends, and with it and another text of the version
worked-all : paragraph_lines (Packages Depends) environment (plain packages) 7 (codes "1.0")
    (binary (codes "all"))
    ≡ codes "unmet 7 xx 1.0 all Pre-Depends cc\nunmet 7 xx 1.0 all Depends bb\n"
unfolding group_text digits
worked-all = refl

worked-recommends : paragraph_lines (Packages Recommends) environment (plain packages) 7
    (codes "01.0-0") (binary (codes "all"))
    ≡ codes "unmet 7 xx 01.0-0 all Pre-Depends cc\nunmet 7 xx 01.0-0 all Depends bb\n"
    ++ codes "unmet 7 xx 01.0-0 all Recommends dd\n"
unfolding group_text digits
worked-recommends = refl

-- a package for i386 is asked for i386, where bb is; one of a wildcard for amd64
worked-foreign : paragraph_lines (Packages Depends) environment (plain packages) 12 (codes "1.0")
    (binary (codes "i386"))
    ≡ codes "unmet 12 xx 1.0 i386 Pre-Depends cc\nunmet 12 xx 1.0 i386 Depends aa\n"
unfolding group_text digits
worked-foreign = refl

worked-environments : map
    (λ architecture. (environment_for (Packages Depends) environment (binary architecture)).target)
    (codes "i386" ∷ codes "all" ∷ codes "any" ∷ codes "linux-any" ∷ [])
    ≡ codes "i386" ∷ codes "amd64" ∷ codes "amd64" ∷ codes "amd64" ∷ []
worked-environments = refl

-- source packages: each is asked for amd64, whatever it is built for
abbrev source : ValueEntries ValueMeaning
source =
    (codes "Architecture", ArchitecturesMean (codes "i386" ∷ []))
    ∷ (codes "Build-Depends", only (codes "bb"))
    ∷ (
      codes "Build-Depends-Arch",
      RelationMeans ((with_list (codes "cc") false (codes "linux-any") ∷ []) ∷ []),
    )
    ∷ (codes "Build-Depends-Indep", only (codes "aa"))
    ∷ (codes "Depends", only (codes "ee"))
    ∷ (codes "Package", NameMeans (codes "xx"))
    ∷ (codes "Source", SourceMeans (record { name = codes "yy"; version = None }))
    ∷ (codes "Version", VersionMeans (version_in (codes "2"))) ∷ []

worked-sources : paragraph_lines (Sources All) environment (plain packages) 1 (codes "2") source
    ≡ codes "unmet 1 xx 2 source Build-Depends bb\n"
    ++ codes "unsure 1 xx 2 source Build-Depends-Arch cc [linux-any]\n"
unfolding group_text digits
worked-sources = refl

worked-source : paragraph_lines (Source All) environment (plain packages) 1 (codes "2") source
    ≡ codes "unmet 1 yy 2 source Build-Depends bb\n"
    ++ codes "unsure 1 yy 2 source Build-Depends-Arch cc [linux-any]\n"
unfolding group_text digits
worked-source = refl

-- one for i386 alone isn't asked, if only those for amd64 are; one for linux-any may be asked
worked-target : (paragraph_lines (Sources OfTarget) environment (plain packages) 1 (codes "2")
    source ≡ []) × (paragraph_lines (Sources OfTarget) environment (plain packages) 3 (codes "2")
    ((codes "Architecture", ArchitecturesMean (codes "linux-any" ∷ []))
    ∷ (codes "Build-Depends", only (codes "bb")) ∷ (codes "Package", NameMeans (codes "xx")) ∷ [])
    ≡ codes "unsure 3 xx 2 source Build-Depends bb\n")
unfolding group_text digits
worked-target = (refl, refl)

-- a binary package that is left out isn't asked; others are, and source packages
abbrev leaving_out : List ℕ → Scope
leaving_out name = record { packages = packages; unless = None; without = name ∷ [] }

worked-left_out : (paragraph_lines (Packages Depends) environment (leaving_out (codes "xx")) 7
    (codes "1.0") (binary (codes "all")) ≡ [])
    × (paragraph_lines (Packages Depends) environment (leaving_out (codes "x")) 7 (codes "1.0")
    (binary (codes "all"))
    ≡ codes "unmet 7 xx 1.0 all Pre-Depends cc\nunmet 7 xx 1.0 all Depends bb\n")
    × (paragraph_lines (Sources All) environment (leaving_out (codes "xx")) 1 (codes "2") source
    ≡ codes "unmet 1 xx 2 source Build-Depends bb\n"
    ++ codes "unsure 1 xx 2 source Build-Depends-Arch cc [linux-any]\n")
unfolding group_text digits
worked-left_out = (refl, refl, refl)

-- the old index met cc, and not bb
worked-old : paragraph_lines (Packages Depends) environment
    (record {
      packages = packages;
      unless = Some (listed (codes "cc") (codes "amd64") ∷ []);
      without = [];
    }) 7 (codes "1.0") (binary (codes "all")) ≡ codes "unmet 7 xx 1.0 all Pre-Depends cc\n"
unfolding group_text digits
worked-old = refl

-- fields that aren't there have no line
worked-none : paragraph_lines (Sources OfTarget) environment (plain packages) 1 [] [] ≡ []
worked-none = refl

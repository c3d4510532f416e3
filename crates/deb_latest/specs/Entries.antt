-- What counts of a paragraph: which package it is of, and its version. Debian Policy 5.3, 5.4,
-- 5.6.7, 5.6.8 and 5.6.12.
use Rattle.std.specs.Prelude.{◌≡◌, ℕ, ◌+◌, List, [], ◌∷◌, ◌++◌, map, Option, None, Some, codes, refl}
use Rattle.deb_base.specs.declared.doc.Doc.{Doc}
use Rattle.deb_base.specs.declared.doc.Doc.TheVariants as docs
use Rattle.deb_version.specs.Parts.{Meaning as Version}
use Rattle.deb_version.specs.Places.{version_in}
use Rattle.deb_field.specs.Values.{ValueMeaning, NameMeans, VersionMeans, ArchitectureMeans, ArchitecturesMean}
use Rattle.deb_control.specs.Documents.{Meaning}
use Rattle.deb_control.specs.FieldWords.{value_under}
use Rattle.deb_control.specs.ValueFiles.{ValueEntries}
use Rattle.deb_latest.specs.Winning.{Entry}
use Rattle.deb_latest.specs.declared.kind.Kind.{Kind}
use Rattle.deb_latest.specs.declared.kind.Kind.TheVariants.{Packages, Sources}
use Rattle.deb_latest.specs.declared.request.By.{By}
use Rattle.deb_latest.specs.declared.request.By.TheVariants.{Name, NameAndArchitecture}

abbrev pub doc_of : Kind → Doc
doc_of Packages = docs.Packages
doc_of Sources = docs.Sources

-- the name and the one architecture that a value is, if it is one: a source package has a list of
-- architectures, so it has no such architecture
abbrev pub name_in : Option ValueMeaning → List ℕ
name_in (Some (NameMeans name)) = name
name_in other = []

abbrev pub architecture_in : Option ValueMeaning → List ℕ
architecture_in (Some (ArchitectureMeans name)) = name
architecture_in other = []

-- The version that a value is. Each paragraph of these kinds has one.
abbrev pub version_value : Option ValueMeaning → Version
version_value (Some (VersionMeans version)) = version
version_value other = version_in []

-- What tells a package from others: its name, or its name, a space and its architecture. No name
-- has a space.
abbrev pub key_of_words : By → List ℕ → List ℕ → List ℕ
key_of_words Name name architecture = name
key_of_words NameAndArchitecture name architecture = name ++ codes " " ++ architecture

-- the name and the architecture of a paragraph
abbrev pub name_of : ValueEntries ValueMeaning → List ℕ
name_of values = name_in (value_under (codes "Package") values)

abbrev pub architecture_of : ValueEntries ValueMeaning → List ℕ
architecture_of values = architecture_in (value_under (codes "Architecture") values)

abbrev pub key_of : By → ValueEntries ValueMeaning → List ℕ
key_of by values = key_of_words by (name_of values) (architecture_of values)

abbrev pub entry_of : By → ℕ → ValueEntries ValueMeaning → Entry
entry_of by number values =
    record {
      number = number;
      key = key_of by values;
      version = version_value (value_under (codes "Version") values);
    }

-- the paragraphs that come after so many, and all of them, counted from 1
abbrev pub entries_from : By → ℕ → Meaning → List Entry
entries_from by n [] = []
entries_from by n (values ∷ more) = entry_of by (n + 1) values ∷ entries_from by (n + 1) more

abbrev pub entries_of : By → Meaning → List Entry
entries_of by meaning = entries_from by 0 meaning

-- a binary package and a source package of several architectures
abbrev hello : ValueEntries ValueMeaning
hello =
    (codes "Architecture", ArchitectureMeans (codes "amd64"))
    ∷ (codes "Package", NameMeans (codes "hello"))
    ∷ (codes "Version", VersionMeans (version_in (codes "0:2.010-0"))) ∷ []

abbrev world : ValueEntries ValueMeaning
world =
    (codes "Architecture", ArchitecturesMean (codes "amd64" ∷ codes "i386" ∷ []))
    ∷ (codes "Package", NameMeans (codes "world"))
    ∷ (codes "Version", VersionMeans (version_in (codes "1"))) ∷ []

worked-docs : map doc_of (Packages ∷ Sources ∷ []) ≡ docs.Packages ∷ docs.Sources ∷ []
worked-docs = refl

worked-keys : (map (λ by. key_of by hello) (Name ∷ NameAndArchitecture ∷ [])
    ≡ codes "hello" ∷ codes "hello amd64" ∷ [])
    × (map (λ by. key_of by world) (Name ∷ NameAndArchitecture ∷ [])
    ≡ codes "world" ∷ codes "world " ∷ [])
worked-keys = (refl, refl)

-- numbers go on through all files
worked-entries : entries_of Name (hello ∷ world ∷ [])
    ≡ record { number = 1; key = codes "hello"; version = version_in (codes "2.10") }
    ∷ record { number = 2; key = codes "world"; version = version_in (codes "1") } ∷ []
worked-entries = refl

-- what isn't there, or is of another kind
worked-none : (name_in None ≡ []) × (name_in (Some (ArchitectureMeans (codes "all"))) ≡ [])
    × (architecture_in (Some (ArchitecturesMean (codes "any" ∷ []))) ≡ [])
    × (version_value (Some (NameMeans (codes "aa"))) ≡ version_value None)
worked-none = (refl, refl, refl, refl)

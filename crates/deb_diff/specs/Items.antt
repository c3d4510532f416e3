-- The paragraphs of a file, each with its number and what it is called. Debian Policy 5.6.
use Rattle.std.specs.Prelude.{◌≡◌, ℕ, ◌+◌, cond, List, [], ◌∷◌, map, None, codes, refl}
use Rattle.std.specs.List.{concat}
use Rattle.std.specs.Str.{is_utf8, chars}
use lib.Utf8.{encode}
use Rattle.deb_base.specs.Bodies.{paragraph_limit, file_limit}
use Rattle.deb_syntax.specs.Fields.{Field}
use Rattle.deb_syntax.specs.Meaning.{Entries}
use Rattle.deb_version.specs.Places.{version_in}
use Rattle.deb_field.specs.Values.{ValueMeaning, NameMeans, SourceMeans, VersionMeans, ArchitectureMeans, ArchitecturesMean, TextMeans, value_text}
use Rattle.deb_control.specs.Canonical.{paragraph_text}
use Rattle.deb_control.specs.Documents.{Meaning}
use Rattle.deb_control.specs.FieldWords.{word_under}
use Rattle.deb_control.specs.ValueFiles.{ValueEntries, body_under}
use Rattle.deb_diff.specs.Kinds.{is_binary, name_field}
use Rattle.deb_diff.specs.Spelled.{fields_after, spelled_in}
use Rattle.deb_diff.specs.declared.kind.Kind.{Kind}
use Rattle.deb_diff.specs.declared.kind.Kind.TheVariants.{Packages, Source, Status}

-- the architecture of a binary package, or nothing if it has none; `source` for a source package
abbrev pub architecture_of : Kind → ValueEntries ValueMeaning → List ℕ
architecture_of kind values =
    cond (is_binary kind) (word_under (codes "Architecture") values) (codes "source")

-- A paragraph: its number in its file, its package or source, its canonical version and the text by
-- which the file spells it, its architecture, and the canonical texts of its values under the names
-- of their fields, in ascending order of these. Of a paragraph of a status file that has no version
-- or no architecture that text is empty.
pub record Item : Type 0 where
  pub number : ℕ
  pub name : List ℕ
  pub version : List ℕ
  pub spelled : List ℕ
  pub architecture : List ℕ
  pub bodies : Entries

-- that of a paragraph with these fields, which have these values
abbrev pub item_of : Kind → ℕ → List Field → ValueEntries ValueMeaning → Item
item_of kind number fields values =
    record {
      number = number;
      name = word_under (name_field kind) values;
      version = word_under (codes "Version") values;
      spelled = spelled_in fields;
      architecture = architecture_of kind values;
      bodies = map (body_under value_text) values;
    }

-- the paragraphs of a file that come after so many, and all of them, counted from 1
abbrev pub items_from : Kind → List ℕ → ℕ → Meaning → List Item
items_from kind text n [] = []
items_from kind text n (values ∷ more) =
    item_of kind (n + 1) (fields_after text n) values ∷ items_from kind text (n + 1) more

abbrev pub items_of : Kind → List ℕ → Meaning → List Item
items_of kind text meaning = items_from kind text 0 meaning

-- What paragraphs are compared by: their whole canonical text, which is equal exactly if their
-- meanings are; name, version and architecture. No name, version or architecture has a space.
abbrev pub whole : Item → List ℕ
whole item = paragraph_text item.bodies

abbrev pub release : Item → List ℕ
release item =
    concat (item.name ∷ codes " " ∷ item.version ∷ codes " " ∷ item.architecture ∷ [])

-- a binary package and a source package, each with a version that is spelled otherwise
abbrev hello : ValueEntries ValueMeaning
hello =
    (codes "Architecture", ArchitectureMeans (codes "amd64"))
    ∷ (codes "Package", NameMeans (codes "hello"))
    ∷ (codes "Version", VersionMeans (version_in (codes "0:2.010-0"))) ∷ []

abbrev world : ValueEntries ValueMeaning
world =
    (codes "Architecture", ArchitecturesMean (codes "any" ∷ []))
    ∷ (codes "Source", SourceMeans (record { name = codes "world"; version = None }))
    ∷ (codes "Version", VersionMeans (version_in (codes "1"))) ∷ []

abbrev fields : List Field
fields = record { name = codes "Version"; line = 2; body = codes "0:2.010-0" } ∷ []

worked-binary : (item_of Packages 7 fields hello
    ≡ record {
      number = 7;
      name = codes "hello";
      version = codes "2.10";
      spelled = codes "0:2.010-0";
      architecture = codes "amd64";
      bodies =
          (codes "Architecture", codes "amd64") ∷ (codes "Package", codes "hello")
          ∷ (codes "Version", codes "2.10") ∷ [];
    })
    × (whole (item_of Packages 7 fields hello)
    ≡ codes "Architecture: amd64\nPackage: hello\nVersion: 2.10\n")
    × (release (item_of Packages 7 fields hello) ≡ codes "hello 2.10 amd64")
worked-binary = (refl, refl, refl)

worked-source : release (item_of Source 1 [] world) ≡ codes "world 1 source"
worked-source = refl

-- a package of a status file that isn't installed
abbrev not_installed : ValueEntries ValueMeaning
not_installed =
    (codes "Package", NameMeans (codes "aa"))
    ∷ (codes "Status", TextMeans (codes "purge ok not-installed")) ∷ []

worked-status : (item_of Status 2 [] not_installed
    ≡ record {
      number = 2;
      name = codes "aa";
      version = [];
      spelled = [];
      architecture = [];
      bodies =
          (codes "Package", codes "aa") ∷ (codes "Status", codes "purge ok not-installed") ∷ [];
    })
    × (release (item_of Status 2 [] not_installed) ≡ codes "aa  ")
    × (release (item_of Status 7 fields hello) ≡ codes "hello 2.10 amd64")
worked-status = (refl, refl, refl)

abbrev file : List ℕ
file = codes "Package: hello\nVersion: 0:2.010-0\n\nSource: world\nVersion: 1\n"

worked-items : (map (λ item. item.number) (items_of Packages file (hello ∷ world ∷ []))
    ≡ 1 ∷ 2 ∷ [])
    × (map (λ item. item.name) (items_of Packages file (hello ∷ world ∷ []))
    ≡ codes "hello" ∷ [] ∷ [])
    × (map (λ item. item.spelled) (items_of Packages file (hello ∷ world ∷ []))
    ≡ codes "0:2.010-0" ∷ codes "1" ∷ [])
unfolding file_limit paragraph_limit is_utf8 chars encode
worked-items = (refl, refl, refl)

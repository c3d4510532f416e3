-- The words and the relations in the values of a paragraph. Debian Policy 5.1, 5.6 and 7.1.
use Rattle.std.specs.Prelude.{◌≡◌, ℕ, List, [], ◌∷◌, map, Option, Some, None, codes, refl}
use Rattle.std.specs.FinMap.{find}
use Rattle.deb_base.specs.Names.{canonical_name}
use Rattle.deb_syntax.specs.Meaning.{byte_order}
use Rattle.deb_version.specs.Canonical.{version_text}
use Rattle.deb_version.specs.Places.{version_in}
use Rattle.deb_relation.specs.Meaning.{Relation}
use Rattle.deb_field.specs.Values.{ValueMeaning, NameMeans, SourceMeans, VersionMeans, ArchitectureMeans, ArchitecturesMean, FlagMeans, MultiArchMeans, NumberMeans, LineMeans, FoldedMeans, RelationMeans, TextMeans}
use Rattle.deb_control.specs.ValueFiles.{ValueEntries}

-- the value of the field with a name, without ASCII case
abbrev pub value_under : List ℕ → ValueEntries ValueMeaning → Option ValueMeaning
value_under name values = find byte_order (canonical_name name) values

-- the groups of a relationship field; none if there is no field
abbrev pub groups_in : ValueMeaning → Relation
groups_in (NameMeans x) = []
groups_in (SourceMeans x) = []
groups_in (VersionMeans x) = []
groups_in (ArchitectureMeans x) = []
groups_in (ArchitecturesMean x) = []
groups_in (FlagMeans x) = []
groups_in (MultiArchMeans x) = []
groups_in (NumberMeans x) = []
groups_in (LineMeans x) = []
groups_in (FoldedMeans x) = []
groups_in (RelationMeans groups) = groups
groups_in (TextMeans x) = []

abbrev pub groups_of : Option ValueMeaning → Relation
groups_of None = []
groups_of (Some value) = groups_in value

-- a name, of a source package too, a version or an architecture, as a line has it
abbrev pub word_in : ValueMeaning → List ℕ
word_in (NameMeans name) = name
word_in (SourceMeans source) = source.name
word_in (VersionMeans version) = version_text version
word_in (ArchitectureMeans name) = name
word_in (ArchitecturesMean x) = []
word_in (FlagMeans x) = []
word_in (MultiArchMeans x) = []
word_in (NumberMeans x) = []
word_in (LineMeans x) = []
word_in (FoldedMeans x) = []
word_in (RelationMeans x) = []
word_in (TextMeans x) = []

abbrev pub word_of : Option ValueMeaning → List ℕ
word_of None = []
word_of (Some value) = word_in value

abbrev pub word_under : List ℕ → ValueEntries ValueMeaning → List ℕ
word_under name values = word_of (value_under name values)

-- Names are found without case. Of `Source: ss (2)` the word is the name alone. What isn't there,
-- or is of another kind, has no word and no groups.
abbrev values : ValueEntries ValueMeaning
values =
    (codes "Architecture", ArchitectureMeans (codes "all"))
    ∷ (codes "Depends", RelationMeans ([] ∷ []))
    ∷ (codes "Package", NameMeans (codes "xx"))
    ∷ (codes "Section", LineMeans (codes "net"))
    ∷ (
      codes "Source",
      SourceMeans (record { name = codes "ss"; version = Some (version_in (codes "2")) }),
    )
    ∷ (codes "Version", VersionMeans (version_in (codes "0:1.0"))) ∷ []

abbrev names : List (List ℕ)
names =
    codes "architecture" ∷ codes "DEPENDS" ∷ codes "pACKAGE" ∷ codes "Section" ∷ codes "Source"
    ∷ codes "Version" ∷ codes "Priority" ∷ []

worked-words : (value_under (codes "pACKAGE") values ≡ Some (NameMeans (codes "xx")))
    × (map (λ name. word_under name values) names
    ≡ codes "all" ∷ [] ∷ codes "xx" ∷ [] ∷ codes "ss" ∷ codes "1.0" ∷ [] ∷ [])
    × (map (λ name. groups_of (value_under name values)) names
    ≡ [] ∷ ([] ∷ []) ∷ [] ∷ [] ∷ [] ∷ [] ∷ [] ∷ [])
worked-words = (refl, refl, refl)

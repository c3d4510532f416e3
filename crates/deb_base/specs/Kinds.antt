-- The table of the fields that are known by name: which kind of value each has, and which fields a
-- document requires. Debian Policy 5.1 (names are found without case), 5.3 (binary packages), 5.4
-- (source packages), 5.6 (the fields), 7.1 to 7.8 (relationship fields), dpkg(1) (the status file);
-- that unknown fields are text is this project's own.
use Rattle.std.specs.Prelude.{◌≡◌, ℕ, Bool, true, false, List, [], ◌∷◌, length, map, get_or, codes, refl}
use Rattle.std.specs.List.{list_all, position_or_len, range_with_len}
use Rattle.std.specs.Str.{bytes_eq}
use Rattle.deb_base.specs.FieldNames.{is_name}
use Rattle.deb_base.specs.Names.{folded, canonical_name}
use Rattle.deb_base.specs.declared.doc.Doc.{Doc}
use Rattle.deb_base.specs.declared.doc.Doc.TheVariants as docs
use Rattle.deb_base.specs.declared.kind.Kind.{Kind}
use Rattle.deb_base.specs.declared.kind.Kind.TheVariants.{Name, Source, Version, Architecture, ArchitectureWords, Flag, MultiArch, Number, Line, Folded, Relation, Text}
use Rattle.deb_base.specs.declared.kind.Relationship.{Relationship}
use Rattle.deb_base.specs.declared.kind.Relationship.TheVariants.{Depends, Conflicts, Provides}

-- where a group may have two or more alternatives (7.1; that other fields take none is this
-- project's own)
abbrev pub takes_alternatives : Relationship → Bool
takes_alternatives Depends = true
takes_alternatives Conflicts = false
takes_alternatives Provides = false

-- where a bound may have an operator other than `=` (7.1)
abbrev pub takes_all_operators : Relationship → Bool
takes_all_operators Depends = true
takes_all_operators Conflicts = true
takes_all_operators Provides = false

-- a row of the table of fields: a name as it is usually spelled, and the kind of its values
abbrev pub FieldRow : Type 0
FieldRow = List ℕ × Kind

-- the fields that are known by name, in ascending order of the canonical spellings of their names:
-- those of 5.6, those that declare dependencies (7.2, 7.7), the other relationship fields (7.3,
-- 7.4, 7.6 to 7.8), Provides (7.5), and texts that Debian's files often have
abbrev pub known_fields : List FieldRow
known_fields =
    (codes "Architecture", Architecture)
    ∷ (codes "Binary", Folded)
    ∷ (codes "Breaks", Relation Conflicts)
    ∷ (codes "Bugs", Text)
    ∷ (codes "Build-Conflicts", Relation Conflicts)
    ∷ (codes "Build-Conflicts-Arch", Relation Conflicts)
    ∷ (codes "Build-Conflicts-Indep", Relation Conflicts)
    ∷ (codes "Build-Depends", Relation Depends)
    ∷ (codes "Build-Depends-Arch", Relation Depends)
    ∷ (codes "Build-Depends-Indep", Relation Depends)
    ∷ (codes "Build-Ids", Text)
    ∷ (codes "Built-Using", Relation Conflicts)
    ∷ (codes "Checksums-Sha1", Text)
    ∷ (codes "Checksums-Sha256", Text)
    ∷ (codes "Conflicts", Relation Conflicts)
    ∷ (codes "Depends", Relation Depends)
    ∷ (codes "Description", Text)
    ∷ (codes "Description-md5", Text)
    ∷ (codes "Dgit", Text)
    ∷ (codes "Directory", Text)
    ∷ (codes "Enhances", Relation Depends)
    ∷ (codes "Essential", Flag)
    ∷ (codes "Filename", Line)
    ∷ (codes "Files", Text)
    ∷ (codes "Format", Line)
    ∷ (codes "Homepage", Line)
    ∷ (codes "Installed-Size", Number)
    ∷ (codes "Maintainer", Line)
    ∷ (codes "MD5sum", Text)
    ∷ (codes "Multi-Arch", MultiArch)
    ∷ (codes "Origin", Text)
    ∷ (codes "Package", Name)
    ∷ (codes "Package-List", Text)
    ∷ (codes "Pre-Depends", Relation Depends)
    ∷ (codes "Priority", Line)
    ∷ (codes "Provides", Relation Provides)
    ∷ (codes "Python-Version", Text)
    ∷ (codes "Recommends", Relation Depends)
    ∷ (codes "Replaces", Relation Conflicts)
    ∷ (codes "Ruby-Versions", Text)
    ∷ (codes "Section", Line)
    ∷ (codes "SHA1", Text)
    ∷ (codes "SHA256", Text)
    ∷ (codes "Size", Number)
    ∷ (codes "Source", Source)
    ∷ (codes "Standards-Version", Line)
    ∷ (codes "Status", Text)
    ∷ (codes "Suggests", Relation Depends)
    ∷ (codes "Tag", Text)
    ∷ (codes "Task", Text)
    ∷ (codes "Testsuite", Text)
    ∷ (codes "Uploaders", Folded)
    ∷ (codes "Vcs-Browser", Text)
    ∷ (codes "Vcs-Git", Text)
    ∷ (codes "Version", Version)
    ∷ []

-- how many rows there are
abbrev pub row_count : ℕ
row_count = 55

-- the number of the first row that has the name, counted from 0 and without case; of no row: how
-- many rows there are
unfoldable pub known_row : List ℕ → ℕ
known_row name = position_or_len (λ row. bytes_eq (folded row.0) (folded name)) known_fields

-- the kind in a row; of no row: text
unfoldable pub kind_at : ℕ → Kind
kind_at row = get_or (map (λ row. row.1) known_fields) row Text

-- Architecture of a source package holds words (5.6.8)
abbrev pub in_source : Kind → Kind
in_source Architecture = ArchitectureWords
in_source Name = Name
in_source Source = Source
in_source Version = Version
in_source ArchitectureWords = ArchitectureWords
in_source Flag = Flag
in_source MultiArch = MultiArch
in_source Number = Number
in_source Line = Line
in_source Folded = Folded
in_source (Relation sort) = Relation sort
in_source Text = Text

-- what a field of the kind holds in a document; under Any each is a text
abbrev pub kind_in : Doc → Kind → Kind
kind_in docs.Binary kind = kind
kind_in docs.Packages kind = kind
kind_in docs.Source kind = in_source kind
kind_in docs.Sources kind = in_source kind
kind_in docs.Status kind = kind
kind_in docs.Any kind = Text

-- the kind of a field, by its name without case
unfoldable pub kind_of : Doc → List ℕ → Kind
kind_of doc name = kind_in doc (kind_at (known_row name))

-- the fields that each paragraph has to have; a package of a status file that isn't installed may
-- have neither a version nor an architecture
abbrev pub required : Doc → List (List ℕ)
required docs.Binary = codes "Package" ∷ codes "Version" ∷ codes "Architecture" ∷ []
required docs.Packages = codes "Package" ∷ codes "Version" ∷ codes "Architecture" ∷ []
required docs.Source = codes "Format" ∷ codes "Source" ∷ codes "Version" ∷ []
required docs.Sources = codes "Package" ∷ codes "Version" ∷ []
required docs.Status = codes "Package" ∷ codes "Status" ∷ []
required docs.Any = []

-- The kind of a field goes by its name without case alone.
abbrev pub KindGoesByName : Type 0
KindGoesByName = (doc : Doc) (a b : List ℕ) → folded a ≡ folded b → kind_of doc a ≡ kind_of doc b

-- A field has the kind of the canonical spelling of its name.
abbrev pub KindOfCanonicalName : Type 0
KindOfCanonicalName =
    (doc : Doc) (name : List ℕ) → kind_of doc (canonical_name name) ≡ kind_of doc name

-- Under Any each field is a text.
abbrev pub FieldsOfAnyAreTexts : Type 0
FieldsOfAnyAreTexts = (name : List ℕ) → kind_of docs.Any name ≡ Text

-- Worked cases. Each name is written out here, and not taken from the table; the table has no more
-- rows than there are names here.

all_rows : length known_fields ≡ row_count
all_rows = refl

-- under a kind of document these fields have the kind
abbrev HasKind : Doc → Kind → List (List ℕ) → Type 0
HasKind doc kind names = map (kind_of doc) names ≡ map (λ name. kind) names

-- and under each kind of document that judges values
abbrev HasKindInEach : Kind → List (List ℕ) → Type 0
HasKindInEach kind names =
    HasKind docs.Binary kind names
    × HasKind docs.Packages kind names
    × HasKind docs.Source kind names
    × HasKind docs.Sources kind names
    × HasKind docs.Status kind names

names : HasKindInEach Name (codes "Package" ∷ codes "pACKAGE" ∷ [])
unfolding kind_of kind_at known_row
names = (refl, refl, refl, refl, refl)

sources : HasKindInEach Source (codes "Source" ∷ codes "SOURCE" ∷ [])
unfolding kind_of kind_at known_row
sources = (refl, refl, refl, refl, refl)

versions : HasKindInEach Version (codes "Version" ∷ codes "version" ∷ [])
unfolding kind_of kind_at known_row
versions = (refl, refl, refl, refl, refl)

architectures : HasKind docs.Binary Architecture (codes "Architecture" ∷ codes "architecturE" ∷ [])
    × HasKind docs.Packages Architecture (codes "Architecture" ∷ codes "ARCHITECTURE" ∷ [])
    × HasKind docs.Source ArchitectureWords (codes "Architecture" ∷ codes "architecture" ∷ [])
    × HasKind docs.Sources ArchitectureWords (codes "Architecture" ∷ codes "ARCHITecture" ∷ [])
    × HasKind docs.Status Architecture (codes "Architecture" ∷ codes "arCHITECTURE" ∷ [])
unfolding kind_of kind_at known_row
architectures = (refl, refl, refl, refl, refl)

flags : HasKindInEach Flag (codes "Essential" ∷ codes "eSSENTIAL" ∷ [])
unfolding kind_of kind_at known_row
flags = (refl, refl, refl, refl, refl)

multi_archs : HasKindInEach MultiArch (codes "Multi-Arch" ∷ codes "MULTI-arch" ∷ [])
unfolding kind_of kind_at known_row
multi_archs = (refl, refl, refl, refl, refl)

numbers : HasKindInEach Number
    (codes "Installed-Size" ∷ codes "Size" ∷ codes "INSTALLED-SIZE" ∷ codes "sIZE" ∷ [])
unfolding kind_of kind_at known_row
numbers = (refl, refl, refl, refl, refl)

lines : HasKindInEach Line
    (codes "Maintainer" ∷ codes "Homepage" ∷ codes "Section" ∷ codes "Priority"
    ∷ codes "Filename" ∷ codes "Format" ∷ codes "Standards-Version"
    ∷ codes "maintainer" ∷ codes "HOMEPAGE" ∷ codes "SECTION" ∷ codes "priority"
    ∷ codes "fileName" ∷ codes "fORMAT" ∷ codes "standards-version" ∷ [])
unfolding kind_of kind_at known_row
lines = (refl, refl, refl, refl, refl)

lists : HasKindInEach Folded
    (codes "Binary" ∷ codes "Uploaders" ∷ codes "BINARY" ∷ codes "uploaders" ∷ [])
unfolding kind_of kind_at known_row
lists = (refl, refl, refl, refl, refl)

dependencies : HasKindInEach (Relation Depends)
    (codes "Depends" ∷ codes "Pre-Depends" ∷ codes "Recommends" ∷ codes "Suggests"
    ∷ codes "Enhances" ∷ codes "Build-Depends" ∷ codes "Build-Depends-Indep"
    ∷ codes "Build-Depends-Arch"
    ∷ codes "DEPENDS" ∷ codes "pre-dEPENDS" ∷ codes "recommends" ∷ codes "SUGGESTS"
    ∷ codes "enhances" ∷ codes "build-depends" ∷ codes "BUILD-DEPENDS-INDEP"
    ∷ codes "build-Depends-arch" ∷ [])
unfolding kind_of kind_at known_row
dependencies = (refl, refl, refl, refl, refl)

conflicts : HasKindInEach (Relation Conflicts)
    (codes "Breaks" ∷ codes "Conflicts" ∷ codes "Replaces" ∷ codes "Built-Using"
    ∷ codes "Build-Conflicts" ∷ codes "Build-Conflicts-Indep" ∷ codes "Build-Conflicts-Arch"
    ∷ codes "BREAKS" ∷ codes "conflicts" ∷ codes "REPLACES" ∷ codes "built-using"
    ∷ codes "build-conflicts" ∷ codes "build-conflicts-indep" ∷ codes "BUILD-CONFLICTS-ARCH" ∷ [])
unfolding kind_of kind_at known_row
conflicts = (refl, refl, refl, refl, refl)

provides : HasKindInEach (Relation Provides) (codes "Provides" ∷ codes "PROVIDES" ∷ [])
unfolding kind_of kind_at known_row
provides = (refl, refl, refl, refl, refl)

-- texts of the table, fields of Debian's files that aren't in it, names that nearly are, and no
-- name
texts : HasKindInEach Text
    (codes "Status" ∷ codes "sTATUS"
    ∷ codes "Bugs" ∷ codes "Build-Ids" ∷ codes "Description-md5" ∷ codes "Dgit" ∷ codes "Origin"
    ∷ codes "Python-Version" ∷ codes "Ruby-Versions" ∷ codes "SHA1" ∷ codes "Task"
    ∷ codes "Vcs-Browser" ∷ codes "Description" ∷ codes "Files" ∷ codes "Checksums-Sha1"
    ∷ codes "Checksums-Sha256" ∷ codes "Package-List" ∷ codes "MD5sum" ∷ codes "SHA256"
    ∷ codes "Directory" ∷ codes "Tag"
    ∷ codes "Conffiles" ∷ codes "Changes" ∷ codes "Date" ∷ codes "Vcs-Git" ∷ codes "Testsuite"
    ∷ codes "Static-Built-Using" ∷ codes "Build-Provides" ∷ codes "Build-Depends-Any"
    ∷ codes "Depend" ∷ codes "Packages" ∷ codes "Multi_Arch" ∷ codes "Version-" ∷ [] ∷ [])
unfolding kind_of kind_at known_row
texts = (refl, refl, refl, refl, refl)

-- under Any the same fields are texts too
texts_of_any : HasKind docs.Any Text
    (codes "Package" ∷ codes "Source" ∷ codes "Version" ∷ codes "Architecture"
    ∷ codes "Essential" ∷ codes "Multi-Arch" ∷ codes "Installed-Size" ∷ codes "Size"
    ∷ codes "Maintainer" ∷ codes "Homepage" ∷ codes "Section" ∷ codes "Priority"
    ∷ codes "Filename" ∷ codes "Format" ∷ codes "Standards-Version" ∷ codes "Binary"
    ∷ codes "Uploaders" ∷ codes "Depends" ∷ codes "Pre-Depends" ∷ codes "Recommends"
    ∷ codes "Suggests" ∷ codes "Enhances" ∷ codes "Build-Depends" ∷ codes "Build-Depends-Indep"
    ∷ codes "Build-Depends-Arch" ∷ codes "Breaks" ∷ codes "Conflicts" ∷ codes "Replaces"
    ∷ codes "Built-Using" ∷ codes "Build-Conflicts" ∷ codes "Build-Conflicts-Indep"
    ∷ codes "Build-Conflicts-Arch" ∷ codes "Provides" ∷ codes "Files" ∷ codes "vERSION"
    ∷ codes "Status" ∷ codes "STATUS" ∷ [] ∷ [])
unfolding kind_of kind_at known_row
texts_of_any = refl

required_fields : (required docs.Binary
    ≡ codes "Package" ∷ codes "Version" ∷ codes "Architecture" ∷ [])
    × (required docs.Packages ≡ codes "Package" ∷ codes "Version" ∷ codes "Architecture" ∷ [])
    × (required docs.Source ≡ codes "Format" ∷ codes "Source" ∷ codes "Version" ∷ [])
    × (required docs.Sources ≡ codes "Package" ∷ codes "Version" ∷ [])
    × (required docs.Status ≡ codes "Package" ∷ codes "Status" ∷ [])
    × (required docs.Any ≡ [])
required_fields = (refl, refl, refl, refl, refl, refl)

-- each row has a name, and no two of them have one name
pub names_of_rows : (list_all (λ row. is_name row.0) known_fields ≡ true)
    × (map (λ row. known_row row.0) known_fields ≡ range_with_len 0 row_count)
unfolding known_row
names_of_rows = (refl, refl)

rows_of_names : map known_row
    (codes "ARCHITECTURE" ∷ codes "package" ∷ codes "status" ∷ codes "version" ∷ codes "Statu"
    ∷ codes "Packag" ∷ [] ∷ [])
    ≡ 0 ∷ 31 ∷ 46 ∷ 54 ∷ row_count ∷ row_count ∷ row_count ∷ []
unfolding known_row
rows_of_names = refl

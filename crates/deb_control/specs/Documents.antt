-- What a file means as a document of a kind, and which files are accepted as one. Debian Policy 5.1
-- and 5.3 to 5.6; dpkg(1) (the status file); the limits and the order of refusals are this
-- project's own.
use Rattle.std.specs.Prelude.{◌≡◌, ℕ, List, [], ◌∷◌, Option, None, Some, Err, codes, refl}
use Rattle.std.specs.Str.{is_utf8, chars}
use lib.Utf8.{encode}
use Rattle.deb_base.specs.Bodies.{paragraph_limit, file_limit}
use Rattle.deb_version.specs.Faults.{first_fault}
use Rattle.deb_version.specs.Parts.{no_revision}
use Rattle.deb_base.specs.declared.code.Code.TheVariants.{DuplicateField, NoColon, NoParagraph, TooManyParagraphs, MissingField, NotOneLine, BadName, BadNumber, BadWord, BadArchitecture, BadVersion, BadRelation, AlternativesNotAllowed, ProvidesBound}
use Rattle.deb_base.specs.declared.doc.Doc.TheVariants.{Binary, Packages, Source, Status}
use Rattle.deb_base.specs.declared.code.Code.{Code}
use Rattle.deb_base.specs.declared.refusal.Refusal.{Refusal}
use Rattle.deb_base.specs.declared.doc.Doc.{Doc}
use Rattle.deb_base.specs.Docs.{is_single}
use Rattle.deb_base.specs.Kinds.{kind_at, known_row, kind_of, required}
use Rattle.deb_field.specs.RelationFieldCases.{told}
use Rattle.deb_field.specs.Values.{ValueMeaning, NameMeans, VersionMeans, ArchitectureMeans, FoldedMeans, value_text, SpellsValue, value_refusal}
use Rattle.deb_field.specs.ValueLaws.{value_refusals}
use Rattle.deb_control.specs.Rules.{Rules}
use Rattle.deb_control.specs.Refusals.{next_checked, outcome, refusal_by, text_by}
use Rattle.deb_control.specs.ValueFiles.{ValueEntries, MeansValues, values_text}
use Rattle.deb_control.specs.Acceptance.{IsAccepted}

-- what a file means: a list of paragraphs, each of values under the canonical spellings of their
-- names, in ascending order of these
abbrev pub Meaning : Type 0
Meaning = List (ValueEntries ValueMeaning)

-- the canonical text of the value that a body spells, and nothing where it is refused
abbrev pub text_unless_refused : (doc : Doc) (name body : List ℕ) (o : Option Code)
    → value_refusal doc name body ≡ o → List ℕ
text_unless_refused doc name body None none =
    value_text ((value_refusals doc name).spelled body none).0
text_unless_refused doc name body (Some code) some = []

abbrev pub rules_of : Doc → Rules
rules_of doc = record {
  refusal = value_refusal doc;
  canonical = λ name body. text_unless_refused doc name body (value_refusal doc name body) refl;
  required = required doc;
  single = is_single doc;
}

-- The file means this.
abbrev pub Means : Doc → List ℕ → Meaning → Type 0
Means doc = MeansValues ValueMeaning (SpellsValue doc)

-- The canonical text of a meaning.
abbrev pub canonical_text : Meaning → List ℕ
canonical_text = values_text value_text

-- The file is accepted with this meaning.
abbrev pub Accepted : Doc → List ℕ → Meaning → Type 0
Accepted doc = IsAccepted ValueMeaning (SpellsValue doc) value_text (rules_of doc)

-- The refusal of the file, if it has one.
abbrev pub refusal_of : Doc → List ℕ → Option Refusal
refusal_of doc = refusal_by (rules_of doc)

-- What is written of the file: the canonical text of the paragraphs before the first that is
-- refused, or of all.
abbrev pub out_of : Doc → List ℕ → List ℕ
out_of doc = text_by (rules_of doc)

-- nothing is written before a first paragraph that is refused
no_outcome : (out_of Packages (codes "\nPackage aa\n") ≡ [])
    × (refusal_of Packages (codes "\nPackage aa\n") ≡ Some (record { code = NoColon; line = 2 }))
unfolding file_limit paragraph_limit is_utf8 chars encode
no_outcome = (refl, refl)

-- no paragraph: nothing is written, and one is missing where one is asked
no_paragraph : (outcome (rules_of Packages) [] ≡ record { passed = []; refusal = None })
    × (refusal_of Binary [] ≡ Some (record { code = NoParagraph; line = 1 }))
    × (refusal_of Binary (codes "\n\n") ≡ Some (record { code = NoParagraph; line = 3 }))
    × (refusal_of Source (codes "\n \n") ≡ Some (record { code = NoParagraph; line = 3 }))
unfolding file_limit paragraph_limit
no_paragraph = (refl, refl, refl, refl)

-- refusals of a line, of values in the order of the file, and of names: a value goes before a name
-- that is missing
first_paragraphs : (refusal_of Packages (codes "Package: aa\npackage: bb")
    ≡ Some (record { code = DuplicateField; line = 2 }))
    × (refusal_of Packages (codes "Package aa") ≡ Some (record { code = NoColon; line = 1 }))
    × (refusal_of Packages (codes "Package: aa\nVersion: 1")
    ≡ Some (record { code = MissingField; line = 1 }))
    × (refusal_of Packages (codes "Package: aa\nSize: 1k")
    ≡ Some (record { code = BadNumber; line = 2 }))
    × (refusal_of Packages (codes "\nPackage: aa\nHomepage: x\n y\nSize: 1k")
    ≡ Some (record { code = NotOneLine; line = 3 }))
unfolding file_limit paragraph_limit is_utf8 chars encode kind_of kind_at known_row first_fault
first_paragraphs = (refl, refl, refl, refl, refl)

-- refusals of versions, sources, architectures and words
values : (refusal_of Packages (codes "Package: aa\nVersion: 1-\nArchitecture: all")
    ≡ Some (record { code = BadVersion; line = 2 }))
    × (refusal_of Packages (codes "Package: aa\nVersion: 1\nArchitecture: any all")
    ≡ Some (record { code = BadArchitecture; line = 3 }))
    × (refusal_of Packages (codes "Package: aa\nVersion: 1\nArchitecture: all\nSource: A (1_)")
    ≡ Some (record { code = BadName; line = 4 }))
    × (refusal_of Packages (codes "Package: aa\nVersion: 1\nArchitecture: all\nSource: aa ()")
    ≡ Some (record { code = BadVersion; line = 4 }))
    × (refusal_of Packages (codes "Package: aa\nVersion: 1\nArchitecture: all\nEssential: maybe")
    ≡ Some (record { code = BadWord; line = 4 }))
unfolding file_limit paragraph_limit is_utf8 chars encode kind_of kind_at known_row first_fault
values = (refl, refl, refl, refl, refl)

-- after a first paragraph that has passed: a second one where one is asked, whatever it holds
second_paragraph : (next_checked (rules_of Binary)
    (codes "Package: aa\nVersion: 1\nArchitecture: all\n\n# x") ([] ∷ [])
    ≡ Err (record { code = TooManyParagraphs; line = 5 }))
    × (next_checked (rules_of Packages)
    (codes "Package: aa\nVersion: 1\nArchitecture: all\n\nPackage: bb") ([] ∷ [])
    ≡ Err (record { code = MissingField; line = 5 }))
unfolding file_limit paragraph_limit is_utf8 chars encode kind_of kind_at known_row first_fault
second_paragraph = (refl, refl)

-- refusals of relations, at the first line of their field
relations : (refusal_of Packages
    (codes "Package: aa\nVersion: 1\nArchitecture: all\nDepends: bb\n c")
    ≡ Some (record { code = BadRelation; line = 4 }))
    × (refusal_of Packages (codes "Conflicts: bb | cc\nPackage: aa\nVersion: 1\nArchitecture: all")
    ≡ Some (record { code = AlternativesNotAllowed; line = 1 }))
    × (refusal_of Packages (codes "Package: aa\nVersion: 1\nArchitecture: all\nProvides: vv (>= 1)")
    ≡ Some (record { code = ProvidesBound; line = 4 }))
unfolding file_limit paragraph_limit is_utf8 chars encode kind_of kind_at known_row first_fault told
relations = (refl, refl, refl)

-- a status file: Package and Status are asked, and values are judged as those of Packages
statuses : (refusal_of Status (codes "Package: aa\nVersion: 1\nArchitecture: all")
    ≡ Some (record { code = MissingField; line = 1 }))
    × (refusal_of Status (codes "Status: install ok installed\nVersion: 1")
    ≡ Some (record { code = MissingField; line = 1 }))
    × (refusal_of Status (codes "Package: aa\nStatus: x\nVersion: 1-")
    ≡ Some (record { code = BadVersion; line = 3 }))
    × (refusal_of Status (codes "Package: aa\nArchitecture: any all")
    ≡ Some (record { code = BadArchitecture; line = 2 }))
    × (refusal_of Status (codes "Package: aa\nStatus: x\n y\nDepends: bb cc")
    ≡ Some (record { code = BadRelation; line = 4 }))
unfolding file_limit paragraph_limit is_utf8 chars encode kind_of kind_at known_row first_fault told
statuses = (refl, refl, refl, refl, refl)

-- the canonical text of values: fields under their names in ascending order, one empty line between
-- two paragraphs; of versions the text of their meaning
written : canonical_text (((codes "Architecture", ArchitectureMeans (codes "amd64"))
    ∷ (codes "Package", NameMeans (codes "hello"))
    ∷ (
      codes "Version",
      VersionMeans (record {
        epoch = 0;
        upstream = ([], 1) ∷ (codes ".", 0) ∷ [];
        revision = no_revision;
      }),
    ) ∷ [])
    ∷ ((codes "Uploaders", FoldedMeans (codes "a" ∷ codes "b" ∷ [])) ∷ []) ∷ [])
    ≡ codes "Architecture: amd64\nPackage: hello\nVersion: 1.0\n\nUploaders: a b\n"
written = refl

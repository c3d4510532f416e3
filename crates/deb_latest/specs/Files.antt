-- The latest versions of several files, as text: this project's own. Debian Policy 5.1 says what a
-- paragraph is.
use Rattle.std.specs.Prelude.{◌≡◌, ℕ, List, [], ◌∷◌, ◌++◌, Option, None, Some, codes, refl}
use Rattle.std.specs.Io.KnownBytes.{Appends}
use Rattle.deb_base.specs.Bodies.{paragraph_limit}
use Rattle.deb_syntax.specs.Lines.{Paragraph, paragraphs_of}
use Rattle.deb_version.specs.Parts.{Meaning as Version}
use Rattle.deb_version.specs.Places.{version_in}
use Rattle.deb_field.specs.Values.{ValueMeaning, NameMeans, VersionMeans}
use Rattle.deb_control.specs.Documents.{Accepted, Meaning}
use Rattle.deb_control.specs.ValueFiles.{ValueEntries}
use Rattle.deb_latest.specs.Entries.{doc_of}
use Rattle.deb_latest.specs.Requests.{Asked, latest_of}
use Rattle.deb_latest.specs.Written.{chosen, chosen_text}
use Rattle.deb_latest.specs.Writes.{HasWritten}
use Rattle.deb_latest.specs.declared.kind.Kind.{Kind}
use Rattle.deb_latest.specs.declared.kind.Kind.TheVariants.{Packages}
use Rattle.deb_latest.specs.declared.request.By.TheVariants.{Name}
use Rattle.deb_latest.specs.declared.winners.Winners.{Winners}

-- the paragraphs of files, one file after another
abbrev pub paragraphs_in : List (List ℕ) → List Paragraph
paragraphs_in [] = []
paragraphs_in (text ∷ texts) = paragraphs_of text ++ paragraphs_in texts

-- The first file means this, and the others mean the rest.
pub record FirstMeans (kind : Kind) (text : List ℕ) (OthersMean : Meaning → Type 0)
    (meaning : Meaning) : Type 0 where
  pub first : Meaning
  pub others : Meaning
  pub accepted : Accepted (doc_of kind) text first
  pub mean : OthersMean others
  pub whole : meaning ≡ first ++ others

-- Each of the files is accepted as a document of the kind, and together they mean this, one file
-- after another.
abbrev pub FilesMean : Kind → List (List ℕ) → Meaning → Type 0
FilesMean kind [] meaning = meaning ≡ []
FilesMean kind (text ∷ texts) meaning = FirstMeans kind text (FilesMean kind texts) meaning

-- The text that is written of the files, where together they mean this: of each package the
-- paragraph with the latest version.
abbrev pub latest_text : Asked → Meaning → List (List ℕ) → List ℕ
latest_text asked meaning texts = chosen_text (latest_of asked meaning) (paragraphs_in texts)

-- what the paragraphs with the latest versions mean, in their order
abbrev pub latest_in : Asked → Meaning → Meaning
latest_in asked meaning = chosen (latest_of asked meaning) meaning

-- Of the paragraphs of these files exactly those with the numbers were written.
pub record HasWrittenFiles (numbers : List ℕ) (count : ℕ) (texts : List (List ℕ))
    (winners : Winners) (old new : Option (List ℕ)) : Type 0 where
  pub has : HasWritten numbers count (paragraphs_in texts) winners
  pub written : Appends old new (chosen_text numbers (paragraphs_in texts))

worked-paragraphs : paragraphs_in (codes "a:1\n\nb:2\n" ∷ [] ∷ codes "c:3" ∷ [])
    ≡ record { first = 1; lines = codes "a:1" ∷ [] }
    ∷ record { first = 3; lines = codes "b:2" ∷ [] }
    ∷ record { first = 1; lines = codes "c:3" ∷ [] } ∷ []
unfolding paragraph_limit
worked-paragraphs = refl

-- aa in 1 and bb in a first file, aa in 2 in a second one
abbrev values : List ℕ → List ℕ → ValueEntries ValueMeaning
values name version =
    (codes "Package", NameMeans name) ∷ (codes "Version", VersionMeans (version_in version)) ∷ []

abbrev all : Meaning
all =
    values (codes "aa") (codes "1") ∷ values (codes "bb") (codes "1")
    ∷ values (codes "aa") (codes "2") ∷ []

abbrev texts : List (List ℕ)
texts =
    codes "package:aa\nversion: 1\n\nPackage:  bb\nVersion:1-0\n"
    ∷ codes "\n\nPackage: aa\nVersion: 2" ∷ []

abbrev asked : Option Version → Asked
asked limit = record { kind = Packages; by = Name; limit = limit }

worked-latest : (latest_text (asked None) all texts
    ≡ codes "Package:  bb\nVersion:1-0\n\nPackage: aa\nVersion: 2\n")
    × (latest_text (asked (Some (version_in (codes "2")))) all texts
    ≡ codes "package:aa\nversion: 1\n\nPackage:  bb\nVersion:1-0\n")
    × (latest_in (asked None) all
    ≡ values (codes "bb") (codes "1") ∷ values (codes "aa") (codes "2") ∷ [])
unfolding paragraph_limit
worked-latest = (refl, refl, refl)

-- The lines of a file, and what is written of it. Debian Policy 5.1.
use Rattle.std.specs.Prelude.{◌≡◌, ◌⊎◌, ℕ, ◌+◌, Bool, true, false, List, [], ◌∷◌, ◌++◌, length, Option, Some, codes, refl}
use Rattle.std.specs.Fmt.{digits}
use Rattle.std.specs.Str.{is_utf8, chars}
use lib.Utf8.{encode}
use Rattle.std.specs.Io.KnownBytes.{Appends}
use Rattle.deb_base.specs.Bodies.{paragraph_limit, file_limit}
use Rattle.deb_base.specs.Devices.{AppendsFront}
use Rattle.deb_base.specs.declared.doc.Doc.{Doc}
use Rattle.deb_base.specs.declared.doc.Doc.TheVariants as docs
use Rattle.deb_base.specs.declared.refusal.Refusal.{Refusal}
use Rattle.deb_base.specs.declared.version_text.VersionText.{VersionText}
use Rattle.deb_base.specs.declared.version_text.VersionText.TheVariants.{Canonical, Spelled}
use Rattle.deb_syntax.specs.Fields.{Field}
use Rattle.deb_syntax.specs.Lines.{IsClosed}
use Rattle.deb_syntax.specs.Meaning.{Entries}
use Rattle.deb_syntax.specs.Reading.{passed_count}
use Rattle.deb_relation.specs.Environments.{environment_with}
use Rattle.deb_relation.specs.Texts.{group_text}
use Rattle.deb_version.specs.Places.{version_in}
use Rattle.deb_field.specs.Values.{ValueMeaning, NameMeans, VersionMeans, RelationMeans, SpellsValue}
use Rattle.deb_control.specs.Documents.{Meaning, Accepted, refusal_of, rules_of}
use Rattle.deb_control.specs.Refusals.{outcome}
use Rattle.deb_control.specs.ValueFiles.{SpellsEntries, ValueEntries}
use Rattle.deb_index.specs.Alternatives.{alone}
use Rattle.deb_unmet.specs.Fields.{paragraph_lines}
use Rattle.deb_unmet.specs.Scopes.{plain}
use Rattle.deb_unmet.specs.Spelled.{fields_after, version_word}
use Rattle.deb_unmet.specs.declared.asked.Asked.TheVariants.{Sources}
use Rattle.deb_unmet.specs.declared.asked.SourcesAsked.TheVariants.{OfTarget}
use Rattle.deb_unmet.specs.declared.asking.Summary.{Summary}

-- what is asked: of which kind of file, which text of a version the lines have, and the lines of
-- the paragraph of a number, with a text of its version and its values
pub record Asks : Type 0 where
  pub doc : Doc
  pub versions : VersionText
  pub lines : ℕ → List ℕ → ValueEntries ValueMeaning → List ℕ

-- the lines of a paragraph with these fields, which have these values
abbrev pub lines_of : Asks → ℕ → List Field → ValueEntries ValueMeaning → List ℕ
lines_of asks number fields values =
    asks.lines number (version_word asks.versions fields values) values

-- the lines of a file's paragraphs that come after so many
abbrev pub lines_from : Asks → List ℕ → ℕ → Meaning → List ℕ
lines_from asks text n [] = []
lines_from asks text n (values ∷ more) =
    lines_of asks (n + 1) (fields_after text n) values ++ lines_from asks text (n + 1) more

-- The lines of a file are a function of what it means, and of how it spells its versions.
abbrev pub file_lines : Asks → List ℕ → Meaning → List ℕ
file_lines asks text meaning = lines_from asks text 0 meaning

abbrev pub is_nothing : List ℕ → Bool
is_nothing [] = true
is_nothing (x ∷ xs) = false

-- Bodies of a file's first paragraphs mean this, and exactly their lines were written, or a front
-- of them.
pub record WritesLines (asks : Asks) (text : List ℕ) (bodies : List Entries)
    (old new : Option (List ℕ)) : Type 0 where
  pub values : Meaning
  pub are : SpellsEntries (SpellsValue asks.doc) bodies values
  pub written : Appends old new (file_lines asks text values)

pub record WritesFront (asks : Asks) (text : List ℕ) (bodies : List Entries)
    (old new : Option (List ℕ)) : Type 0 where
  pub values : Meaning
  pub are : SpellsEntries (SpellsValue asks.doc) bodies values
  pub written : AppendsFront old new (file_lines asks text values)

-- The file is accepted, exactly its lines were written, and the summary says how many paragraphs it
-- has and whether there is no line.
pub record WritesFile (asks : Asks) (text : List ℕ) (summary : Summary)
    (old new : Option (List ℕ)) : Type 0 where
  pub meaning : Meaning
  pub accepted : Accepted asks.doc text meaning
  pub count : length meaning ≡ summary.paragraphs
  pub written : Appends old new (file_lines asks text meaning)
  pub is_empty : summary.is_empty ≡ is_nothing (file_lines asks text meaning)

-- The file is refused so, and exactly the lines of the paragraphs before the first that fails were
-- written.
pub record WritesRefused (asks : Asks) (text : List ℕ) (refusal : Refusal)
    (old new : Option (List ℕ)) : Type 0 where
  pub refused : refusal_of asks.doc text ≡ Some refusal
  pub lines : WritesLines asks text (outcome (rules_of asks.doc) text).passed old new

-- A front of the file was read that ends with a blank line and its newline, or is all of it: its
-- paragraphs are the first of those that pass, and so they are where that front is a file of its
-- own. Exactly their lines were written.
pub record WritesRead (asks : Asks) (text : List ℕ) (old new : Option (List ℕ)) : Type 0 where
  pub read : List ℕ
  pub behind : List ℕ
  pub whole : text ≡ read ++ behind
  pub closed : IsClosed read ⊎ (behind ≡ [])
  pub first : List Entries
  pub more : List Entries
  pub passed : (outcome (rules_of asks.doc) text).passed ≡ first ++ more
  pub all : passed_count read ≡ length first
  pub alone : (outcome (rules_of asks.doc) read).passed ≡ first
  pub lines : WritesLines asks text first old new

-- These paragraphs pass, others may follow them, and a front of their lines was written.
pub record WritesSome (asks : Asks) (text : List ℕ) (old new : Option (List ℕ)) : Type 0 where
  pub first : List Entries
  pub more : List Entries
  pub passed : (outcome (rules_of asks.doc) text).passed ≡ first ++ more
  pub lines : WritesFront asks text first old new

-- For amd64 and no packages: two source packages, of which the second has unmet groups and spells
-- its version otherwise than the canonical text does.
abbrev pub asks : VersionText → Asks
asks versions = record {
  doc = docs.Sources;
  versions = versions;
  lines = paragraph_lines (Sources OfTarget) (environment_with (codes "amd64") []) (plain []);
}

abbrev pub without : ValueEntries ValueMeaning
without =
    (codes "Package", NameMeans (codes "xx"))
    ∷ (codes "Version", VersionMeans (version_in (codes "1"))) ∷ []

abbrev pub with_two : ValueEntries ValueMeaning
with_two = (
  codes "Build-Depends",
  RelationMeans ((alone (codes "aa") ∷ []) ∷ (alone (codes "bb") ∷ []) ∷ []),
)
    ∷ (codes "Package", NameMeans (codes "yy"))
    ∷ (codes "Version", VersionMeans (version_in (codes "2"))) ∷ []

abbrev file : List ℕ
file =
    codes "Package: xx\nVersion: 1\n\n"
    ++ codes "Package: yy\nVersion: 02-0\nBuild-Depends: bb, aa\n"

worked-lines : (file_lines (asks Canonical) file (without ∷ with_two ∷ [])
    ≡ codes "unmet 2 yy 2 source Build-Depends aa\nunmet 2 yy 2 source Build-Depends bb\n")
    × (file_lines (asks Canonical) file (without ∷ []) ≡ [])
    × (file_lines (asks Canonical) file [] ≡ [])
    × (lines_from (asks Canonical) file 6 (with_two ∷ [])
    ≡ codes "unmet 7 yy 2 source Build-Depends aa\nunmet 7 yy 2 source Build-Depends bb\n")
unfolding group_text digits
worked-lines = (refl, refl, refl, refl)

worked-spelled : (file_lines (asks Spelled) file (without ∷ with_two ∷ [])
    ≡ codes "unmet 2 yy 02-0 source Build-Depends aa\nunmet 2 yy 02-0 source Build-Depends bb\n")
    × (lines_from (asks Spelled) file 1 (with_two ∷ [])
    ≡ codes "unmet 2 yy 02-0 source Build-Depends aa\nunmet 2 yy 02-0 source Build-Depends bb\n")
    × (file_lines (asks Spelled) file (without ∷ []) ≡ [])
unfolding group_text digits file_limit paragraph_limit is_utf8 chars encode
worked-spelled = (refl, refl, refl)

worked-nothing : (is_nothing [] ≡ true) × (is_nothing (codes "unmet") ≡ false)
worked-nothing = (refl, refl)

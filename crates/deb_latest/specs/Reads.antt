-- What was read of the files so far.
use Rattle.std.specs.Prelude.{◌≡◌, ℕ, ◌++◌, List, length, Option, None, Some, Vec}
use Rattle.std.specs.List.{AllByRecursion}
use Rattle.std.specs.Global.{Global}
use Rattle.deb_version.specs.Grammar.{SpellsVersion}
use Rattle.deb_version.specs.KeyLaws.{SortsAsItsVersion}
use Rattle.deb_version.specs.Keys.{version_key}
use Rattle.deb_version.specs.Parts.{Meaning as Version}
use Rattle.deb_control.specs.Documents.{Accepted, Meaning}
use Rattle.deb_latest.specs.Bests.{AreBests}
use Rattle.deb_latest.specs.Entries.{doc_of, entries_of, key_of_words}
use Rattle.deb_latest.specs.Requests.{Asked}
use Rattle.deb_latest.specs.Winning.{Entry}
use Rattle.deb_latest.specs.declared.kind.Kind.{Kind}
use Rattle.deb_latest.specs.declared.latest.Latest.{Latest}
use Rattle.deb_latest.specs.declared.request.By.{By}
use Rattle.deb_latest.specs.declared.words.Words.{Words}

-- the kind of the files that it reads
abbrev pub kind_of : Latest → Kind
kind_of latest = latest.kind

-- The bytes are the key of a version, which sorts as the version does.
abbrev pub IsKeyOf : Vec ℕ Global → Version → Type 0
IsKeyOf key version = (key.items ≡ version_key version) × SortsAsItsVersion version

-- The key of a limit, if there is one.
abbrev pub IsLimit : Option (Vec ℕ Global) → Option Version → Type 0
IsLimit None None = Unit {0}
IsLimit None (Some limit) = ⊥
IsLimit (Some key) None = ⊥
IsLimit (Some key) (Some limit) = IsKeyOf key limit

-- Some text spells the version of a paragraph.
abbrev pub IsSpelled : Entry → Type 0
IsSpelled e = (text : List ℕ) × SpellsVersion text e.version

-- The words are those of a paragraph with a number.
pub record IsEntry (by : By) (words : Words) (n : ℕ) (e : Entry) : Type 0 where
  pub number : e.number ≡ n
  pub key : key_of_words by words.name.items words.architecture.items ≡ e.key
  pub version : words.version.items ≡ version_key e.version
  pub spelled : IsSpelled e

-- These paragraphs were read, as asked, and under each package is the best of them.
pub record HasEntries (asked : Asked) (entries : List Entry) (latest : Latest) : Type 0 where
  pub kind : latest.kind ≡ asked.kind
  pub by : latest.by ≡ asked.by
  pub limit : IsLimit latest.limit asked.limit
  pub counted : latest.count ≡ length entries
  pub spelled : AllByRecursion IsSpelled entries
  pub bests : AreBests asked.limit entries latest.bests

-- The files that were read mean this, one after another.
abbrev pub HasRead : Asked → Meaning → Latest → Type 0
HasRead asked meaning latest = HasEntries asked (entries_of asked.by meaning) latest

-- One more file was read: it is accepted, and its paragraphs follow.
pub record ReadsFile (asked : Asked) (before : Meaning) (text : List ℕ) (latest : Latest)
    : Type 0 where
  pub meaning : Meaning
  pub accepted : Accepted (doc_of asked.kind) text meaning
  pub has : HasRead asked (before ++ meaning) latest

-- What is kept of all paragraphs of a file. Debian Policy 5.1.
use Rattle.std.specs.Prelude.{List, ℕ}
use Rattle.deb_syntax.specs.Answers.{Seen}
use Rattle.deb_base.specs.declared.doc.Doc.{Doc}
use Rattle.deb_control.specs.Documents.{Meaning, Accepted}
use Rattle.deb_control.specs.GivenParagraphs.{AreNext}
use Rattle.deb_control.specs.Pairs.{Pairwise}
use Rattle.deb_control.specs.Paragraphs.{AreValuesOf}

-- These are the paragraphs of the file, in its order; with their values it is accepted; and this is
-- kept of them.
pub record KeepsAll (doc : Doc) (Keeps : List Seen → Type 0) (text : List ℕ) : Type 0 where
  pub given : List Seen
  pub next : AreNext text 0 given
  pub accepted : (meaning : Meaning) → Pairwise (AreValuesOf doc) given meaning
      → Accepted doc text meaning
  pub keeps : Keeps given

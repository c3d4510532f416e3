-- Laws of documents: acceptance, refusals and canonical text.
use Rattle.std.specs.Prelude.{◌≡◌, ◌⊎◌, ◌↔◌, ◌≤◌, ℕ, List, [], ◌++◌, length, None, Some, Ok, Err}
use Rattle.deb_base.specs.Codes.{number_of}
use Rattle.deb_base.specs.declared.code.Code.TheVariants.{NoParagraph}
use Rattle.deb_base.specs.declared.refusal.Refusal.{Refusal}
use Rattle.deb_syntax.specs.Lines.{lines_of}
use Rattle.deb_syntax.specs.Meaning.{Entries}
use Rattle.deb_base.specs.declared.doc.Doc.{Doc}
use Rattle.deb_base.specs.declared.doc.Doc.TheVariants.{Any}
use Rattle.deb_field.specs.Values.{value_text}
use Rattle.deb_control.specs.Calls.{WritesCanonical}
use Rattle.deb_control.specs.Canonical.{file_text}
use Rattle.deb_control.specs.Checking.{Follow}
use Rattle.deb_control.specs.Documents.{rules_of, Meaning, canonical_text, Accepted, refusal_of, out_of}
use Rattle.deb_control.specs.Refusals.{line_behind, next_checked}
use Rattle.deb_control.specs.ValueFiles.{bodies_of}

-- A file has no refusal exactly where it is accepted with some meaning.
abbrev pub RefusedOrAccepted : Type 0
RefusedOrAccepted =
    (doc : Doc) (text : List ℕ) → (refusal_of doc text ≡ None)
    ↔ ((meaning : Meaning) × Accepted doc text meaning)

-- A file is accepted with at most one meaning.
abbrev pub AcceptedMeansOneThing : Type 0
AcceptedMeansOneThing =
    (doc : Doc) (text : List ℕ) (meaning other : Meaning) → Accepted doc text meaning
    → Accepted doc text other → meaning ≡ other

-- What is written of an accepted file is the canonical text of its meaning.
abbrev pub AcceptedIsWritten : Type 0
AcceptedIsWritten =
    (doc : Doc) (text : List ℕ) (meaning : Meaning) → Accepted doc text meaning
    → out_of doc text ≡ canonical_text meaning

-- The canonical text of an accepted file is accepted with the same meaning, within all limits.
abbrev pub CanonicalTextIsAccepted : Type 0
CanonicalTextIsAccepted =
    (doc : Doc) (text : List ℕ) (meaning : Meaning) → Accepted doc text meaning
    → Accepted doc (canonical_text meaning) meaning

-- Files that are accepted as one kind of document have equal canonical text exactly where they mean
-- the same.
abbrev pub CanonicalTextTellsMeanings : Type 0
CanonicalTextTellsMeanings =
    (doc : Doc) (text other : List ℕ) (meaning other_meaning : Meaning) → Accepted doc text meaning
    → Accepted doc other other_meaning →
    (canonical_text meaning ≡ canonical_text other_meaning) ↔ (meaning ≡ other_meaning)

-- The canonical text of an accepted file has no refusal, and what is written of it is that text.
abbrev pub CanonicalTextIsItsOwn : Type 0
CanonicalTextIsItsOwn =
    (doc : Doc) (text : List ℕ) (meaning : Meaning) → Accepted doc text meaning →
    (refusal_of doc (canonical_text meaning) ≡ None)
    × (out_of doc (canonical_text meaning) ≡ canonical_text meaning)

-- The file is accepted, and these bytes are accepted with its meaning and are written of
-- themselves.
pub record IsNormal (doc : Doc) (text written : List ℕ) : Type 0 where
  pub meaning : Meaning
  pub accepted : Accepted doc text meaning
  pub again : Accepted doc written meaning
  pub itself : out_of doc written ≡ written

-- Where the canonical text of a file was written after other bytes, which is what `normalise`
-- answers Ok for, the bytes that came are these.
abbrev pub WhatIsWrittenIsNormal : Type 0
WhatIsWrittenIsNormal =
    (doc : Doc) (text : List ℕ) (n : ℕ) (held written : List ℕ)
    → WritesCanonical doc text n (Some held) (Some (held ++ written)) → IsNormal doc text written

-- A refusal of a file as a document: its code is from 1 to 21, and its line one of the file's; or a
-- paragraph is missing at the line after the last one.
pub record IsRefusalOfFile (text : List ℕ) (refusal : Refusal) : Type 0 where
  pub least : 1 ≤ number_of refusal.code
  pub most : number_of refusal.code ≤ 21
  pub first : 1 ≤ refusal.line
  pub last : (refusal.line ≤ length (lines_of text))
      ⊎ (refusal ≡ record { code = NoParagraph; line = line_behind text })

-- Each refusal of a file is one of these.
abbrev pub RefusalsAreOfTheFile : Type 0
RefusalsAreOfTheFile =
    (doc : Doc) (text : List ℕ) (refusal : Refusal) → refusal_of doc text ≡ Some refusal
    → IsRefusalOfFile text refusal

-- Under Any no value is judged and no field is required, so a refusal is one of a text: its code is
-- from 1 to 9.
abbrev pub RefusalsOfAnyAreOfText : Type 0
RefusalsOfAnyAreOfText =
    (text : List ℕ) (refusal : Refusal) → refusal_of Any text ≡ Some refusal
    → number_of refusal.code ≤ 9

-- What is refused after paragraphs of a file, where each is the answer after those before it,
-- is the refusal of the file, and they are all that is written of it.
abbrev pub RefusalBehindIsOfTheFile : Type 0
RefusalBehindIsOfTheFile =
    (doc : Doc) (text : List ℕ) (before : List Entries) (refusal : Refusal)
    → Follow (rules_of doc) text [] before
    → next_checked (rules_of doc) text before ≡ Err refusal →
    (refusal_of doc text ≡ Some refusal) × (out_of doc text ≡ file_text before)

-- The file is accepted, and these are the canonical bodies of its paragraphs.
pub record IsAllOf (doc : Doc) (text : List ℕ) (before : List Entries) : Type 0 where
  pub meaning : Meaning
  pub accepted : Accepted doc text meaning
  pub bodies : bodies_of value_text meaning ≡ before

-- Where none follows after them, the file is accepted with exactly these.
abbrev pub EndBehindIsOfTheFile : Type 0
EndBehindIsOfTheFile =
    (doc : Doc) (text : List ℕ) (before : List Entries) → Follow (rules_of doc) text [] before
    → next_checked (rules_of doc) text before ≡ Ok None → IsAllOf doc text before

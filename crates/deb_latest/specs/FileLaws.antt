-- What holds of the text that is written of several files.
use Rattle.std.specs.Prelude.{◌≡◌, ◌≤◌, ℕ, List, [], ◌∷◌, ◌++◌, length, Option}
use Rattle.std.specs.Io.KnownBytes.{Appends}
use Rattle.deb_base.specs.Bodies.{file_limit}
use Rattle.deb_base.specs.Devices.{AppendsFront}
use Rattle.deb_syntax.specs.Lines.{Paragraph, paragraphs_of}
use Rattle.deb_control.specs.Documents.{Accepted, Meaning, canonical_text}
use Rattle.deb_latest.specs.Entries.{doc_of}
use Rattle.deb_latest.specs.Files.{FilesMean, HasWrittenFiles, latest_in, latest_text, paragraphs_in}
use Rattle.deb_latest.specs.Requests.{Asked, latest_of}
use Rattle.deb_latest.specs.Written.{chosen, chosen_text, text_after}
use Rattle.deb_latest.specs.Writes.{HasWritten, WritesFile, WritesRead}
use Rattle.deb_latest.specs.declared.kind.Kind.{Kind}
use Rattle.deb_latest.specs.declared.winners.Winners.{Winners}

-- Files have as many paragraphs as they mean.
abbrev pub FilesHaveTheirParagraphs : Type 0
FilesHaveTheirParagraphs =
    (kind : Kind) (texts : List (List ℕ)) (meaning : Meaning) → FilesMean kind texts meaning
    → length (paragraphs_in texts) ≡ length meaning

-- One more file follows those before.
abbrev pub FilesFollow : Type 0
FilesFollow =
    (kind : Kind) (texts : List (List ℕ)) (text : List ℕ) (meaning more : Meaning)
    → FilesMean kind texts meaning → Accepted (doc_of kind) text more
    → FilesMean kind (texts ++ text ∷ []) (meaning ++ more)

-- Before the first file nothing was written, and each file adds what is chosen of it.
abbrev pub NoFileIsWritten : Type 0
NoFileIsWritten =
    (numbers : List ℕ) (count : ℕ) (winners : Winners) (old : Option (List ℕ))
    → HasWritten numbers count [] winners → HasWrittenFiles numbers count [] winners old old

abbrev pub FilesAreWritten : Type 0
FilesAreWritten =
    (numbers : List ℕ) (count : ℕ) (texts : List (List ℕ)) (text : List ℕ)
    (winners next : Winners) (old held new : Option (List ℕ))
    → HasWrittenFiles numbers count texts winners old held
    → WritesFile numbers count (paragraphs_in texts) text next held new
    → HasWrittenFiles numbers count (texts ++ text ∷ []) next old new

-- What a fault leaves of a file is a prefix of what is written of it, and so of what is written of
-- it and of the files around it.
abbrev pub PartsAreWritten : Type 0
PartsAreWritten =
    (numbers : List ℕ) (before : List Paragraph) (text : List ℕ) (old new : Option (List ℕ))
    → WritesRead numbers before text old new
    → AppendsFront old new (text_after numbers before (paragraphs_of text))

abbrev pub FaultsLeaveAPrefix : Type 0
FaultsLeaveAPrefix =
    (numbers : List ℕ) (count : ℕ) (texts : List (List ℕ)) (text : List ℕ)
    (more : List (List ℕ)) (winners : Winners) (old held new : Option (List ℕ))
    → HasWrittenFiles numbers count texts winners old held
    → AppendsFront held new (text_after numbers (paragraphs_in texts) (paragraphs_of text))
    → AppendsFront old new (chosen_text numbers (paragraphs_in (texts ++ text ∷ more)))

-- Both passes together: where the files are read again unchanged, exactly their text is written,
-- and as many paragraphs have passed as were read.
pub record WritesLatest (asked : Asked) (meaning : Meaning) (texts : List (List ℕ))
    (old new : Option (List ℕ)) : Type 0 where
  pub written : Appends old new (latest_text asked meaning texts)
  pub complete : length (paragraphs_in texts) ≡ length meaning
  pub each : length (chosen (latest_of asked meaning) (paragraphs_in texts))
      ≡ length (latest_of asked meaning)

abbrev pub BothPassesAgree : Type 0
BothPassesAgree =
    (asked : Asked) (texts : List (List ℕ)) (meaning : Meaning) (winners : Winners)
    (old new : Option (List ℕ)) → FilesMean asked.kind texts meaning
    → HasWrittenFiles (latest_of asked meaning) (length meaning) texts winners old new
    → WritesLatest asked meaning texts old new

-- What is written of accepted files is accepted, unless it or its canonical text is too long for
-- one file, and means what the paragraphs with the latest versions mean, in their order.
abbrev pub LatestTextIsAccepted : Type 0
LatestTextIsAccepted =
    (asked : Asked) (texts : List (List ℕ)) (meaning : Meaning)
    → FilesMean asked.kind texts meaning
    → length (latest_text asked meaning texts) ≤ file_limit
    → length (canonical_text (latest_in asked meaning)) ≤ file_limit
    → Accepted (doc_of asked.kind) (latest_text asked meaning texts) (latest_in asked meaning)

-- Asking again changes no byte: of what is written all is written.
abbrev pub LatestTextIsItsOwn : Type 0
LatestTextIsItsOwn =
    (asked : Asked) (texts : List (List ℕ)) (meaning : Meaning)
    → FilesMean asked.kind texts meaning
    → latest_text asked (latest_in asked meaning) (latest_text asked meaning texts ∷ [])
    ≡ latest_text asked meaning texts

-- A file without its refused runs of lines, and what is accepted of it. Debian Policy 5.1; this
-- project's own.
use Rattle.std.specs.Prelude.{◌≡◌, ℕ, ◌+◌, ◌-◌, ◌≤◌, false, List, [], ◌∷◌, ◌++◌, length, map, take, drop, Option, Some, None, Result, Ok, Err, codes, refl}
use Rattle.std.specs.Str.{is_utf8, chars}
use lib.Utf8.{encode}
use Rattle.deb_base.specs.Bodies.{Line, joined, paragraph_limit, pieces_of, file_limit}
use Rattle.deb_base.specs.Docs.{is_single}
use Rattle.deb_base.specs.declared.doc.Doc.{Doc}
use Rattle.deb_base.specs.declared.doc.Doc.TheVariants.{Packages}
use Rattle.deb_base.specs.declared.refusal.Refusal.{Refusal}
use Rattle.deb_field.specs.Values.{value_text}
use Rattle.deb_syntax.specs.Lines.{paragraphs_of}
use Rattle.deb_syntax.specs.Meaning.{Entries}
use Rattle.deb_control.specs.Canonical.{file_text}
use Rattle.deb_control.specs.Documents.{Accepted, Meaning, canonical_text, rules_of}
use Rattle.deb_control.specs.Rules.{Rules}
use Rattle.deb_control.specs.Streams.{CheckedItem, CheckedStream, stream_of, stream_under}
use Rattle.deb_control.specs.ValueFiles.{bodies_of}
use Rattle.deb_control.specs.AllRefusals.{passed_of, refusals_of}
use Rattle.deb_base.specs.declared.code.Code.TheVariants.{NoColon, FileTooLong}

-- the lines of a paragraph that passes, and none of a refused run
abbrev pub lines_if_passed : Result Entries Refusal → List Line → List Line
lines_if_passed (Ok entries) lines = lines
lines_if_passed (Err refusal) lines = []

-- What remains of the lines from line n on. The lines before each run remain, and those of a run
-- that passes. After the last run all remain if no refusal ends the stream, and otherwise none.
abbrev pub remaining_lines : ℕ → List Line → List CheckedItem → Option Refusal → List Line
remaining_lines n lines [] None = lines
remaining_lines n lines [] (Some refusal) = []
remaining_lines n lines (item ∷ items) end =
    take (item.first - n) lines
    ++ (lines_if_passed item.bodies item.lines
    ++ remaining_lines (item.first + length item.lines)
    (drop (item.first - n + length item.lines) lines) items end)

-- What remains of a text that has this stream. The lines are the pieces between newlines, so a text
-- that ends with a newline has an empty one after it.
abbrev pub remaining_in : CheckedStream → List ℕ → List ℕ
remaining_in stream text = joined (remaining_lines 1 (pieces_of text) stream.items stream.end)

-- The text of a file before a refusal that ends its stream, without the refused runs.
abbrev pub remaining_of : Doc → List ℕ → List ℕ
remaining_of doc text = remaining_in (stream_of (rules_of doc) text) text

-- the canonical bodies of an item before others, if it passes
abbrev pub bodies_before : Result Entries Refusal → List Entries → List Entries
bodies_before (Ok entries) others = entries ∷ others
bodies_before (Err refusal) others = others

-- the canonical bodies of the items that pass
abbrev pub passed_bodies : List CheckedItem → List Entries
passed_bodies [] = []
passed_bodies (item ∷ items) = bodies_before item.bodies (passed_bodies items)

-- the lines of an item before others, if it passes
abbrev pub lines_before : Result Entries Refusal → List Line → List (List Line) → List (List Line)
lines_before (Ok entries) lines others = lines ∷ others
lines_before (Err refusal) lines others = others

-- the lines of the items that pass
abbrev pub passed_lines : List CheckedItem → List (List Line)
passed_lines [] = []
passed_lines (item ∷ items) = lines_before item.bodies item.lines (passed_lines items)

-- The other text is accepted with exactly the paragraphs of a file that pass: as many, with their
-- lines, their canonical bodies and their canonical text. It isn't longer than the file.
pub record HasWhatPassed (doc : Doc) (text other : List ℕ) : Type 0 where
  pub meaning : Meaning
  pub accepted : Accepted doc other meaning
  pub count : length meaning ≡ passed_of doc text
  pub lines : map (λ p. p.lines) (paragraphs_of other)
      ≡ passed_lines (stream_of (rules_of doc) text).items
  pub bodies : bodies_of value_text meaning
      ≡ passed_bodies (stream_of (rules_of doc) text).items
  pub canonical : canonical_text meaning
      ≡ file_text (passed_bodies (stream_of (rules_of doc) text).items)
  pub short : length other ≤ length text

-- For a kind of document that has any number of paragraphs, the text before a refusal that ends the
-- stream, without the refused runs, is accepted with exactly the paragraphs that pass.
abbrev pub RemainingIsAccepted : Type 0
RemainingIsAccepted =
    (doc : Doc) (text : List ℕ) → is_single doc ≡ false
    → HasWhatPassed doc text (remaining_of doc text)

-- If nothing is refused, all of the file remains.
abbrev pub AllRemains : Type 0
AllRemains =
    (doc : Doc) (text : List ℕ) → refusals_of doc text ≡ [] → remaining_of doc text ≡ text

-- for the worked cases: all bodies are good, and Package is asked
abbrev sample : Rules
sample = record {
  refusal = λ name body. None;
  canonical = λ name body. body;
  required = codes "Package" ∷ [];
  single = false;
}

abbrev remaining_under : ℕ → ℕ → List ℕ → List ℕ
remaining_under limit most text = remaining_in (stream_under limit most sample text) text

-- no fault, with and without a last newline, and no paragraph: all of it
without_fault : (remaining_under 99 99 (codes "\n\nPackage:a\n \nPackage:a\n\n")
    ≡ codes "\n\nPackage:a\n \nPackage:a\n\n")
    × (remaining_under 99 99 (codes "Package:a\n") ≡ codes "Package:a\n")
    × (remaining_under 99 99 (codes "Package:a") ≡ codes "Package:a")
    × (remaining_under 99 99 (codes "\n \n") ≡ codes "\n \n") × (remaining_under 99 99 [] ≡ [])
unfolding is_utf8 chars encode
without_fault = (refl, refl, refl, refl, refl)

-- a refused run is left out, and the blank lines around it remain, which keep two paragraphs apart;
-- a last line without a newline gets none
with_faults : (remaining_under 99 99 (codes "Package:a\n\nX:1\n# 2\n\nPackage:b\n")
    ≡ codes "Package:a\n\n\nPackage:b\n")
    × (remaining_under 99 99 (codes "#\n\nX:1\n \nPackage:b") ≡ codes "\n \nPackage:b")
    × (remaining_under 99 99 (codes "Package:a\n\n#") ≡ codes "Package:a\n")
    × (remaining_under 99 99 (codes "Package:a\n\n#\n") ≡ codes "Package:a\n\n")
    × (remaining_under 99 99 (codes "#") ≡ []) × (remaining_under 99 99 (codes "#\n") ≡ [])
unfolding is_utf8 chars encode
with_faults = (refl, refl, refl, refl, refl, refl)

-- if a paragraph's lines are too long, the blank lines before it don't remain; a blank line that is
-- longer than a paragraph may be is such a paragraph
long_paragraphs : (remaining_under 11 99 (codes "#\n\nPackage:a\n\nPackage: abc\n\nPackage:b\n")
    ≡ codes "\nPackage:a")
    × (remaining_under 11 99 (codes "Package:a\n\n           \nPackage:b\n")
    ≡ codes "Package:a")
    × (remaining_under 12 99 (codes "Package:a\n\n           \nPackage:b\n")
    ≡ codes "Package:a\n\n           \nPackage:b\n")
unfolding is_utf8 chars encode
long_paragraphs = (refl, refl, refl)

-- the same if the file is too long: within a paragraph, within the blank lines after one, at the
-- first of these, and within blank lines alone
long_files : (remaining_under 99 25 (codes "Package:a\n\n#\n\nPackage:b\nX:1\n")
    ≡ codes "Package:a\n")
    × (remaining_under 99 12 (codes "Package:a\n\n\n\n") ≡ codes "Package:a")
    × (remaining_under 99 10 (codes "Package:a\n\n") ≡ [])
    × (remaining_under 99 2 (codes "\n\n\n") ≡ [])
unfolding is_utf8 chars encode
long_files = (refl, refl, refl, refl)

-- a file of exactly as many bytes as it may have, with and without a newline at its end; if the
-- canonical text of the file is too long with a paragraph, that doesn't remain
at_the_limit : (remaining_under 99 24 (codes "Package: a\n\nPackage: b\n")
    ≡ codes "Package: a\n\nPackage: b\n")
    × (remaining_under 99 23 (codes "Package:a\n\n#\n\nPackage:b")
    ≡ codes "Package:a\n\n\nPackage:b")
    × (remaining_under 99 22 (codes "Package:a\n\nPackage:b") ≡ codes "Package:a")
unfolding is_utf8 chars encode
at_the_limit = (refl, refl, refl)

-- for the worked cases: a paragraph that passes, and a refused run, of one line
abbrev passing : ℕ → Entries → CheckedItem
passing n entries = record { first = n; lines = codes "A" ∷ []; bodies = Ok entries }

abbrev refused : ℕ → CheckedItem
refused n = record {
  first = n;
  lines = codes "B" ∷ [];
  bodies = Err (record { code = NoColon; line = n });
}

lines_that_remain : (remaining_lines 3
    (codes "" ∷ codes "A" ∷ codes " " ∷ codes "B" ∷ codes "\t" ∷ [])
    (passing 4 [] ∷ refused 6 ∷ []) None
    ≡ codes "" ∷ codes "A" ∷ codes " " ∷ codes "\t" ∷ [])
    × (remaining_lines 1 (codes "A" ∷ codes "" ∷ codes "C" ∷ []) (passing 1 [] ∷ [])
    (Some (record { code = FileTooLong; line = 3 })) ≡ codes "A" ∷ [])
    × (passed_bodies (passing 4 ((codes "A", []) ∷ []) ∷ refused 6 ∷ passing 8 [] ∷ [])
    ≡ ((codes "A", []) ∷ []) ∷ [] ∷ [])
    × (passed_lines (passing 4 [] ∷ refused 6 ∷ passing 8 [] ∷ [])
    ≡ (codes "A" ∷ []) ∷ (codes "A" ∷ []) ∷ [])
lines_that_remain = (refl, refl, refl, refl)

-- the same of a kind of document
small_file : remaining_of Packages (codes "#\n\nVersion 1\n") ≡ codes "\n"
unfolding paragraph_limit file_limit is_utf8 chars encode
small_file = refl

-- All refusals of a file, and the lines that are written of them. Debian Policy 5.1; the order of
-- the refusals and the lines are this project's own.
use Rattle.std.specs.Prelude.{◌≡◌, ℕ, ◌+◌, Bool, true, false, List, [], ◌∷◌, ◌++◌, length, None, Result, Ok, Err, codes, refl}
use Rattle.std.specs.Fmt.{decimal, digits}
use Rattle.std.specs.List.{concat, flat_map}
use Rattle.std.specs.Str.{is_utf8, chars}
use lib.Utf8.{encode}
use Rattle.deb_base.specs.Bodies.{paragraph_limit, file_limit}
use Rattle.deb_base.specs.Lines.{refusal_line}
use Rattle.deb_base.specs.declared.doc.Doc.{Doc}
use Rattle.deb_base.specs.declared.refusal.Refusal.{Refusal}
use Rattle.deb_syntax.specs.Meaning.{Entries}
use Rattle.deb_control.specs.Documents.{rules_of}
use Rattle.deb_control.specs.Rules.{Rules}
use Rattle.deb_control.specs.Streams.{CheckedItem, CheckedStream, refusals_by, refusals_in, stream_of, stream_under}
use Rattle.deb_base.specs.declared.code.Code.TheVariants.{Comment}
use Rattle.deb_base.specs.declared.doc.Doc.TheVariants.{Packages}

-- how many pass, where one item more does or doesn't
abbrev pub passed_with : Result Entries Refusal → ℕ → ℕ
passed_with (Ok entries) n = n + 1
passed_with (Err refusal) n = n

-- how many of the items are paragraphs that pass
abbrev pub passed_among : List CheckedItem → ℕ
passed_among [] = 0
passed_among (item ∷ items) = passed_with item.bodies (passed_among items)

-- the refusals of the items of a stream, and of its end
abbrev pub refusals_of_stream : CheckedStream → List Refusal
refusals_of_stream stream = refusals_in stream.items stream.end

-- the lines of refusals
abbrev pub lines_of_refusals : List Refusal → List ℕ
lines_of_refusals refusals = flat_map refusal_line refusals

-- the last line
abbrev pub total_line : ℕ → ℕ → List ℕ
total_line passed refused =
    concat (codes "ok " ∷ decimal passed ∷ codes ", " ∷ decimal refused ∷ codes " refused\n" ∷ [])

-- A line for each refusal, and the last line.
abbrev pub stream_lines : CheckedStream → List ℕ
stream_lines stream =
    lines_of_refusals (refusals_of_stream stream)
    ++ total_line (passed_among stream.items) (length (refusals_of_stream stream))

-- Of a file: all its refusals, in the order of its runs; how many paragraphs pass; the lines.
abbrev pub refusals_of : Doc → List ℕ → List Refusal
refusals_of doc text = refusals_by (rules_of doc) text

abbrev pub passed_of : Doc → List ℕ → ℕ
passed_of doc text = passed_among (stream_of (rules_of doc) text).items

abbrev pub file_lines : Doc → List ℕ → List ℕ
file_lines doc text = stream_lines (stream_of (rules_of doc) text)

-- for the worked cases: all bodies are good, and Package is asked
abbrev sample : Bool → Rules
sample single = record {
  refusal = λ name body. None;
  canonical = λ name body. body;
  required = codes "Package" ∷ [];
  single = single;
}

-- the lines of a text, and what comes of it
abbrev lines_under : ℕ → ℕ → Bool → List ℕ → List ℕ
lines_under limit most single text = stream_lines (stream_under limit most (sample single) text)

abbrev passed_under : ℕ → ℕ → Bool → List ℕ → ℕ
passed_under limit most single text =
    passed_among (stream_under limit most (sample single) text).items

-- no fault, no paragraph, one fault in the middle, and two after one another
worked-lines : (lines_under 99 99 false (codes "Package:a\n\nPackage:a\n")
    ≡ codes "ok 2, 0 refused\n")
    × (lines_under 99 99 false [] ≡ codes "ok 0, 0 refused\n")
    × (lines_under 99 99 false (codes "Package:a\n\nX:1\n\nPackage:a\n")
    ≡ codes "line 3: 12 MissingField\nok 2, 1 refused\n")
    × (lines_under 99 99 false (codes "#\n\nX:1\n\nPackage:a\n")
    ≡ codes "line 1: 3 Comment\nline 3: 12 MissingField\nok 1, 2 refused\n")
unfolding is_utf8 chars encode digits
worked-lines = (refl, refl, refl, refl)

-- nothing is looked at after a paragraph whose lines are too long, nor after canonical text of a
-- file that is, which counts the paragraphs that pass
worked-ends : (lines_under 11 99 false (codes "#\n\nPackage: abc\n\n#\n")
    ≡ codes "line 1: 3 Comment\nline 3: 8 ParagraphTooLong\nok 0, 2 refused\n")
    × (lines_under 99 22 false (codes "Package:a\n\nPackage:a\n")
    ≡ codes "line 3: 9 FileTooLong\nok 1, 1 refused\n")
unfolding is_utf8 chars encode digits
worked-ends = (refl, refl)

-- where one paragraph is asked for, the first refusal is the last one
worked-single : (lines_under 99 99 true (codes "#\n\n#\n")
    ≡ codes "line 1: 3 Comment\nok 0, 1 refused\n")
    × (lines_under 99 99 true (codes "Package:a\n\n#\n\n#\n")
    ≡ codes "line 3: 11 TooManyParagraphs\nok 1, 1 refused\n")
    × (lines_under 99 99 true [] ≡ codes "line 1: 10 NoParagraph\nok 0, 1 refused\n")
unfolding is_utf8 chars encode digits
worked-single = (refl, refl, refl)

worked-passed : (passed_under 99 99 false (codes "#\n\nPackage:a\n") ≡ 1)
    × (passed_under 99 99 false (codes "Package:a\n\nX:1\n\nPackage:a\n") ≡ 2)
    × (passed_under 99 99 true (codes "#\n\nPackage:a\n") ≡ 0)
unfolding is_utf8 chars encode
worked-passed = (refl, refl, refl)

worked-total : (total_line 0 0 ≡ codes "ok 0, 0 refused\n")
    × (total_line 4 30 ≡ codes "ok 4, 30 refused\n")
unfolding digits
worked-total = (refl, refl)

-- at the limits of this project
small_file : (file_lines Packages (codes "# b\n") ≡ codes "line 1: 3 Comment\nok 0, 1 refused\n")
    × (refusals_of Packages (codes "# b\n") ≡ record { code = Comment; line = 1 } ∷ [])
    × (passed_of Packages (codes "# b\n") ≡ 0)
unfolding paragraph_limit file_limit is_utf8 chars encode digits
small_file = (refl, refl, refl)

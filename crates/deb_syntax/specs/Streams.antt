-- The stream of a file: its paragraphs and its refused runs of lines, one after another, and its
-- end. Debian Policy 5.1; the limits, the order of the refusals and their lines are this project's
-- own.
use Rattle.std.specs.Prelude.{◌≡◌, ℕ, ◌+◌, ◌≤◌, Bool, true, false, List, [], ◌∷◌, length, drop, Option, Some, None, Result, Ok, Err, codes, refl}
use Rattle.std.specs.Str.{is_utf8, chars}
use lib.Utf8.{encode}
use Rattle.deb_base.specs.declared.code.Code.TheVariants.{ParagraphTooLong, FileTooLong, NoColon}
use Rattle.deb_base.specs.declared.refusal.Refusal.{Refusal}
use Rattle.deb_base.specs.Bodies.{Line, paragraph_limit, file_limit}
use Rattle.deb_syntax.specs.Answers.{Seen, is_line, line_beyond, line_too_long, next_answer, paragraphs_within_under, seen_from}
use Rattle.deb_syntax.specs.Fields.{Field}
use Rattle.deb_syntax.specs.Judging.{judged}
use Rattle.deb_syntax.specs.Lines.{Paragraph}

-- An item of a stream: the number of its first line, its lines, and the fields of a paragraph or
-- the refusal of a run of lines.
pub record Item : Type 0 where
  pub first : ℕ
  pub lines : List Line
  pub fields : Result (List Field) Refusal

-- A stream: its items, and the refusal that ends it. None ends a file that is read to its end.
pub record Stream : Type 0 where
  pub items : List Item
  pub end : Option Refusal

-- what is judged of a paragraph's lines
abbrev pub item_of : Paragraph → Item
item_of p = record { first = p.first; lines = p.lines; fields = judged p.first p.lines }

-- the refusal that a paragraph's length, or the file's, ends a stream with: by the line with which
-- the paragraph is too long, if there is one, and by whether the file is too long before a blank
-- line follows
abbrev pub end_by : ℕ → Option ℕ → Bool → Option Refusal
end_by last (Some line) cut = Some (record { code = ParagraphTooLong; line = line })
end_by last None true = Some (record { code = FileTooLong; line = last })
end_by last None false = None

-- Where a word ends in `_under`, its first arguments are how many bytes a paragraph may have, and a
-- file, as far as it asks them; the word without `_under` is the same at this project's limits.

abbrev pub end_at_under : ℕ → Option ℕ → Paragraph → Option Refusal
end_at_under limit beyond p =
    end_by (p.first + length p.lines) (line_too_long p.first limit p.lines)
    (is_line (p.first + length p.lines) beyond)

-- an item before a stream, or the end instead of it
abbrev pub with_item : Item → Option Refusal → Stream → Stream
with_item item None more = record { items = item ∷ more.items; end = more.end }
with_item item (Some refusal) more = record { items = []; end = Some refusal }

-- the refusal of a file that is too long from a line on, if it is
abbrev pub end_beyond : Option ℕ → Option Refusal
end_beyond None = None
end_beyond (Some line) = Some (record { code = FileTooLong; line = line })

-- the stream of paragraphs, where the file is too long from a line on or isn't
abbrev pub stream_from_under : ℕ → Option ℕ → List Paragraph → Stream
stream_from_under limit beyond [] = record { items = []; end = end_beyond beyond }
stream_from_under limit beyond (p ∷ more) =
    with_item (item_of p) (end_at_under limit beyond p) (stream_from_under limit beyond more)

abbrev pub stream_under : ℕ → ℕ → List ℕ → Stream
stream_under limit most text =
    stream_from_under limit (line_beyond 1 most text) (paragraphs_within_under limit most text)

abbrev pub stream_of : List ℕ → Stream
stream_of text = stream_under paragraph_limit file_limit text

-- what a reader answers of the items that are left, and of the end after them
abbrev pub answer_left : List Item → Option Refusal → Result (Option Seen) Refusal
answer_left [] None = Ok None
answer_left [] (Some refusal) = Err refusal
answer_left (item ∷ items) end = seen_from item.first item.fields

-- and after the first `count` items
abbrev pub stream_answer : Stream → ℕ → Result (Option Seen) Refusal
stream_answer stream count = answer_left (drop count stream.items) stream.end

-- where these are fields, another refusal
abbrev pub refused_or : Result (List Field) Refusal → Option Refusal → Option Refusal
refused_or (Ok fields) other = other
refused_or (Err refusal) other = Some refusal

-- the first refusal: of an item, or else of the end
abbrev pub first_refusal : List Item → Option Refusal → Option Refusal
first_refusal [] end = end
first_refusal (item ∷ items) end = refused_or item.fields (first_refusal items end)

-- After the first items of a file, the reader answers the next item or the end.
abbrev pub AnswersAreOfStream : Type 0
AnswersAreOfStream =
    (text : List ℕ) (count : ℕ) → count ≤ length (stream_of text).items
    → next_answer text count ≡ stream_answer (stream_of text) count

-- for the worked cases: an item of one line
abbrev good : ℕ → Item
good n = record {
  first = n;
  lines = codes "a:1" ∷ [];
  fields = Ok (record { name = codes "a"; line = n; body = codes "1" } ∷ []);
}

abbrev bad : ℕ → Item
bad n = record {
  first = n;
  lines = codes "b" ∷ [];
  fields = Err (record { code = NoColon; line = n });
}

-- no fault, with blank lines around, and no paragraph
without_fault : (stream_under 9 99 (codes "\n\na:1\n \n\na:1\n\n")
    ≡ record { items = good 3 ∷ good 6 ∷ []; end = None })
    × (stream_under 9 99 (codes "\n \n") ≡ record { items = []; end = None })
    × (stream_under 9 99 [] ≡ record { items = []; end = None })
unfolding is_utf8 chars encode
without_fault = (refl, refl, refl)

-- one fault in the middle, two after one another, and one in the last paragraph without a newline
with_faults : (stream_under 9 99 (codes "a:1\n\nb\n\na:1\n")
    ≡ record { items = good 1 ∷ bad 3 ∷ good 5 ∷ []; end = None })
    × (stream_under 9 99 (codes "a:1\n\n\nb\n\nb\n\na:1\n")
    ≡ record { items = good 1 ∷ bad 4 ∷ bad 6 ∷ good 8 ∷ []; end = None })
    × (stream_under 9 99 (codes "a:1\n\nb") ≡ record { items = good 1 ∷ bad 3 ∷ []; end = None })
unfolding is_utf8 chars encode
with_faults = (refl, refl, refl)

-- a paragraph that is too long ends the stream, and so does a file, before a line that is refused;
-- after a blank line in sight the last paragraph is an item
ended_early : (stream_under 4 99 (codes "b\n\na:12\n\nb\n")
    ≡ record {
      items = bad 1 ∷ [];
      end = Some (record { code = ParagraphTooLong; line = 3 });
    })
    × (stream_under 9 5 (codes "b\n\nb\nb\n")
    ≡ record { items = bad 1 ∷ []; end = Some (record { code = FileTooLong; line = 4 }) })
    × (stream_under 9 6 (codes "b\n\nb\n\nb\n")
    ≡ record { items = bad 1 ∷ bad 3 ∷ []; end = Some (record { code = FileTooLong; line = 5 }) })
unfolding is_utf8 chars encode
ended_early = (refl, refl, refl)

-- the answers of a stream, and its first refusal
abbrev too_long : Option Refusal
too_long = Some (record { code = FileTooLong; line = 8 })

answers_of_stream : (answer_left [] None ≡ Ok None)
    × (answer_left [] too_long ≡ Err (record { code = FileTooLong; line = 8 }))
    × (answer_left (bad 3 ∷ good 5 ∷ []) too_long ≡ Err (record { code = NoColon; line = 3 }))
    × (answer_left (good 5 ∷ []) too_long ≡ Ok (Some (record {
      first = 5;
      fields = record { name = codes "a"; line = 5; body = codes "1" } ∷ [];
    })))
    × (stream_answer (record { items = good 1 ∷ bad 3 ∷ []; end = None }) 1
    ≡ Err (record { code = NoColon; line = 3 }))
    × (stream_answer (record { items = good 1 ∷ bad 3 ∷ []; end = None }) 2 ≡ Ok None)
answers_of_stream = (refl, refl, refl, refl, refl, refl)

first_refusals : (first_refusal [] None ≡ None)
    × (first_refusal (good 1 ∷ []) too_long ≡ too_long)
    × (first_refusal (good 1 ∷ bad 3 ∷ bad 5 ∷ []) too_long
    ≡ Some (record { code = NoColon; line = 3 }))
    × (first_refusal (good 1 ∷ []) None ≡ None)
first_refusals = (refl, refl, refl, refl)

-- at the limits of this project
limits_of_streams : (stream_of ≡ stream_under 16777216 4294967295)
    × (stream_of (codes "b\n\na:1\n") ≡ record { items = bad 1 ∷ good 3 ∷ []; end = None })
unfolding paragraph_limit file_limit is_utf8 chars encode
limits_of_streams = (refl, refl)

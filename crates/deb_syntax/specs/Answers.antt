-- What a reader of paragraphs answers of a file: a function of its bytes. Debian Policy 5.1;
-- deb822(5). The limits, the order of the refusals and the lines that they report are this
-- project's own.
use Rattle.std.specs.Prelude.{◌≡◌, ℕ, ◌+◌, ◌-◌, ◌==◌, Bool, false, cond, List, [], ◌∷◌, length, take, drop, nat_le, Option, Some, None, Result, Ok, Err, codes, refl}
use Rattle.std.specs.Str.{is_utf8, chars}
use lib.Utf8.{encode}
use Rattle.deb_base.specs.declared.code.Code.TheVariants.{ParagraphTooLong, FileTooLong, NoColon}
use Rattle.deb_base.specs.declared.refusal.Refusal.{Refusal}
use Rattle.deb_base.specs.Bodies.{Line, newline, line_length, paragraph_limit, file_limit}
use Rattle.deb_syntax.specs.Lines.{Paragraph, lines_of, paragraphs_under}
use Rattle.deb_syntax.specs.Fields.{Field}
use Rattle.deb_syntax.specs.Judging.{judged}

-- what is seen of a paragraph: the number of its first line, and its fields in the order of the
-- file
pub record Seen : Type 0 where
  pub first : ℕ
  pub fields : List Field

-- a byte before whole lines: it is one of theirs, or ends a line, or belongs to a line that is
-- cut off
abbrev pub with_whole : ℕ → List ℕ → List ℕ
with_whole b [] = cond (b == newline) (b ∷ []) []
with_whole b (c ∷ cs) = b ∷ c ∷ cs

-- the lines of a text that end with a newline, each with it
abbrev pub whole_lines : List ℕ → List ℕ
whole_lines [] = []
whole_lines (b ∷ bs) = with_whole b (whole_lines bs)

-- the part of a text that is looked at, where it may have so many bytes: all of it, or if it has
-- more the lines that end with a newline within them
abbrev pub part_within : ℕ → List ℕ → List ℕ
part_within room text = cond (nat_le (length text) room) text (whole_lines (take room text))

-- where a text may have so many bytes and its first line has number n: the line of the first byte
-- beyond, if it has more
abbrev pub line_beyond : ℕ → ℕ → List ℕ → Option ℕ
line_beyond n room text =
    cond (nat_le (length text) room) None (Some (n + length (lines_of (part_within room text))))

-- the line, where the first has number n, with which the lengths of the lines pass so many
-- bytes
abbrev pub line_too_long : ℕ → ℕ → List Line → Option ℕ
line_too_long n room [] = None
line_too_long n room (line ∷ lines) =
    cond (nat_le (line_length line) room) (line_too_long (n + 1) (room - line_length line) lines)
    (Some n)

-- whether this line is the one at which the file is too long
abbrev pub is_line : ℕ → Option ℕ → Bool
is_line n None = false
is_line n (Some line) = line == n

-- the fields of a paragraph, or the first refusal of one of its lines
abbrev pub seen_from : ℕ → Result (List Field) Refusal → Result (Option Seen) Refusal
seen_from n (Ok fields) = Ok (Some (record { first = n; fields = fields }))
seen_from n (Err refusal) = Err refusal

-- What is answered of a paragraph that isn't too long: the file is too long and no blank line
-- after the paragraph was seen before, or else what is judged of its lines.
abbrev pub short_answer : Option ℕ → Paragraph → Result (Option Seen) Refusal
short_answer beyond p =
    cond (is_line (p.first + length p.lines) beyond)
    (Err (record { code = FileTooLong; line = p.first + length p.lines }))
    (seen_from p.first (judged p.first p.lines))

-- what is answered of a paragraph, by the line with which it is too long, if there is one
abbrev pub paragraph_answer : Option ℕ → Option ℕ → Paragraph → Result (Option Seen) Refusal
paragraph_answer (Some line) beyond p = Err (record { code = ParagraphTooLong; line = line })
paragraph_answer None beyond p = short_answer beyond p

-- Where a word ends in `_under`, how many bytes a paragraph may have is its first argument, and how
-- many a file may have its second where it asks that; the word without `_under` is the same at the
-- limits of this project.

-- What is answered of the first of the paragraphs that are left, where the file is too long from a
-- line on or isn't.
abbrev pub answer_of_first_under : ℕ → Option ℕ → List Paragraph → Result (Option Seen) Refusal
answer_of_first_under limit None [] = Ok None
answer_of_first_under limit (Some line) [] = Err (record { code = FileTooLong; line = line })
answer_of_first_under limit beyond (p ∷ more) =
    paragraph_answer (line_too_long p.first limit p.lines) beyond p

abbrev pub answer_of_first : Option ℕ → List Paragraph → Result (Option Seen) Refusal
answer_of_first beyond left = answer_of_first_under paragraph_limit beyond left

-- The paragraphs of a file that are looked at.
abbrev pub paragraphs_within_under : ℕ → ℕ → List ℕ → List Paragraph
paragraphs_within_under limit most text =
    paragraphs_under limit 1 (lines_of (part_within most text))

abbrev pub paragraphs_within : List ℕ → List Paragraph
paragraphs_within text = paragraphs_within_under paragraph_limit file_limit text

-- The answer of a reader of paragraphs after the first `count` paragraphs of a file: the next one,
-- none, or why the file is refused there. The first that holds decides, of the paragraph's lines
-- being too long, the file being too long with no blank line after the paragraph in sight, and a
-- line being refused; after the last one, the file being too long.
abbrev pub next_answer_under : ℕ → ℕ → List ℕ → ℕ → Result (Option Seen) Refusal
next_answer_under limit most text count =
    answer_of_first_under limit (line_beyond 1 most text)
    (drop count (paragraphs_within_under limit most text))

abbrev pub next_answer : List ℕ → ℕ → Result (Option Seen) Refusal
next_answer text count = next_answer_under paragraph_limit file_limit text count

-- the line at which the first of the paragraphs that are left begins, where the file is too long
-- from a line on or isn't
abbrev pub begin_of_first : Option ℕ → List Paragraph → Result (Option ℕ) Refusal
begin_of_first None [] = Ok None
begin_of_first (Some line) [] = Err (record { code = FileTooLong; line = line })
begin_of_first beyond (p ∷ more) = Ok (Some p.first)

-- The line at which the next paragraph begins after the first `count` ones: none, or that the file
-- is too long. A line that is cut off begins none.
abbrev pub next_begin_under : ℕ → ℕ → List ℕ → ℕ → Result (Option ℕ) Refusal
next_begin_under limit most text count =
    begin_of_first (line_beyond 1 most text)
    (drop count (paragraphs_within_under limit most text))

abbrev pub next_begin : List ℕ → ℕ → Result (Option ℕ) Refusal
next_begin text count = next_begin_under paragraph_limit file_limit text count

whole : whole_lines (codes "a\n\nb") ≡ codes "a\n\n"
whole = refl

no_whole : (whole_lines (codes "ab") ≡ []) × (whole_lines [] ≡ [])
no_whole = (refl, refl)

-- a text that fits is looked at whole; of a longer one a line that isn't whole within its bytes
-- isn't
parts : (part_within 3 (codes "a\nb") ≡ codes "a\nb") × (part_within 2 (codes "a\nb") ≡ codes "a\n")
    × (part_within 1 (codes "a\nb") ≡ []) × (part_within 3 (codes "a\nbc") ≡ codes "a\n")
    × (part_within 2 (codes "\n\n\n") ≡ codes "\n\n")
parts = (refl, refl, refl, refl, refl)

beyond : (line_beyond 1 3 (codes "a\nb") ≡ None) × (line_beyond 1 2 (codes "a\nb") ≡ Some 2)
    × (line_beyond 5 1 (codes "a\nb") ≡ Some 5) × (line_beyond 1 2 (codes "\n\n\n") ≡ Some 3)
beyond = (refl, refl, refl, refl)

-- two bytes and their newlines, and a third byte with its own
too_long : (line_too_long 4 4 (codes "a" ∷ codes "b" ∷ []) ≡ None)
    × (line_too_long 4 3 (codes "a" ∷ codes "b" ∷ []) ≡ Some 5)
    × (line_too_long 4 1 (codes "a" ∷ codes "b" ∷ []) ≡ Some 4)
too_long = (refl, refl, refl)

-- for the worked cases: what is seen of `a:1`, and of `b:2` at another line
abbrev first_seen : Seen
first_seen =
    record { first = 1; fields = record { name = codes "a"; line = 1; body = codes "1" } ∷ [] }

abbrev second_seen : ℕ → Seen
second_seen n =
    record { first = n; fields = record { name = codes "b"; line = n; body = codes "2" } ∷ [] }

-- a file within its limits: its paragraphs in turn, and then none
within_limits : (next_answer_under 4 9 (codes "a:1\n\nb:2\n") 0 ≡ Ok (Some first_seen))
    × (next_answer_under 4 9 (codes "a:1\n\nb:2\n") 1 ≡ Ok (Some (second_seen 3)))
    × (next_answer_under 4 9 (codes "a:1\n\nb:2\n") 2 ≡ Ok None)
    × (next_answer_under 4 0 [] 0 ≡ Ok None)
unfolding is_utf8 chars encode
within_limits = (refl, refl, refl, refl)

-- a paragraph is refused at the line with which its lines are too long; a newline counts, also
-- where it is missing
long_paragraph : (next_answer_under 7 99 (codes "b:2\n c\n") 0
    ≡ Ok (Some (record {
      first = 1;
      fields = record { name = codes "b"; line = 1; body = codes "2\n c" } ∷ [];
    })))
    × (next_answer_under 6 99 (codes "b:2\n c\n") 0
    ≡ Err (record { code = ParagraphTooLong; line = 2 }))
    × (next_answer_under 3 99 (codes "b:2\n c\n") 0
    ≡ Err (record { code = ParagraphTooLong; line = 1 }))
    × (next_answer_under 4 99 (codes "a:1") 0 ≡ Ok (Some first_seen))
    × (next_answer_under 3 99 (codes "a:1") 0 ≡ Err (record { code = ParagraphTooLong; line = 1 }))
unfolding is_utf8 chars encode
long_paragraph = (refl, refl, refl, refl, refl)

-- each paragraph by itself: those before it and blank lines count nothing
long_second : (next_answer_under 4 99 (codes "a:1\n\n \nb:22\n") 0 ≡ Ok (Some first_seen))
    × (next_answer_under 4 99 (codes "a:1\n\n \nb:22\n") 1
    ≡ Err (record { code = ParagraphTooLong; line = 4 }))
    × (next_answer_under 4 99 (codes "a:1\n\n \nb:2\n") 1 ≡ Ok (Some (second_seen 4)))
unfolding is_utf8 chars encode
long_second = (refl, refl, refl)

-- a blank line that is longer than a paragraph may be belongs to one, which it makes too long
long_blank_line : (next_answer_under 4 99 (codes "a:1\n   \nb:2\n") 1 ≡ Ok (Some (second_seen 3)))
    × (next_answer_under 4 99 (codes "a:1\n    \nb:2\n") 0
    ≡ Err (record { code = ParagraphTooLong; line = 2 }))
    × (next_answer_under 4 99 (codes "\n    \n") 0
    ≡ Err (record { code = ParagraphTooLong; line = 2 }))
    × (next_begin_under 4 99 (codes "\n    \n") 0 ≡ Ok (Some 2))
    × (next_begin_under 5 99 (codes "\n    \n") 0 ≡ Ok None)
unfolding is_utf8 chars encode
long_blank_line = (refl, refl, refl, refl, refl)

-- a file is too long at the line of the first byte too many, which isn't looked at; a blank line
-- after a paragraph saves it where its newline is still within
long_file : (next_answer_under 99 8 (codes "a:1\n c\n# x") 0
    ≡ Err (record { code = FileTooLong; line = 3 }))
    × (next_answer_under 99 4 (codes "a:1\n\nb:2\n") 0
    ≡ Err (record { code = FileTooLong; line = 2 }))
    × (next_answer_under 99 5 (codes "a:1\n\nb:2\n") 0 ≡ Ok (Some first_seen))
    × (next_answer_under 99 5 (codes "a:1\n\nb:2\n") 1
    ≡ Err (record { code = FileTooLong; line = 3 }))
    × (next_answer_under 99 9 (codes "a:1\n\nb:2\n\n") 1
    ≡ Err (record { code = FileTooLong; line = 4 }))
    × (next_answer_under 99 2 (codes "\n \n\n") 0 ≡ Err (record { code = FileTooLong; line = 2 }))
    × (next_answer_under 99 3 (codes "\n \n") 0 ≡ Ok None)
unfolding is_utf8 chars encode
long_file = (refl, refl, refl, refl, refl, refl, refl)

-- a paragraph that is too long goes before a file that is, and this before a line that is refused;
-- the line that is cut off counts for the file alone
order_of_limits : (next_answer_under 7 8 (codes "a\nb:222\nc") 0
    ≡ Err (record { code = ParagraphTooLong; line = 2 }))
    × (next_answer_under 8 8 (codes "a\nb:222\nc") 0
    ≡ Err (record { code = FileTooLong; line = 3 }))
    × (next_answer_under 8 9 (codes "a\nb:222\nc") 0
    ≡ Err (record { code = ParagraphTooLong; line = 3 }))
    × (next_answer_under 10 9 (codes "a\nb:222\nc") 0 ≡ Err (record { code = NoColon; line = 1 }))
    × (next_answer_under 1 7 (codes "a\nb:222\nc") 0
    ≡ Err (record { code = ParagraphTooLong; line = 1 }))
    × (next_answer_under 7 7 (codes "a\nb:222\nc") 0
    ≡ Err (record { code = FileTooLong; line = 2 }))
unfolding is_utf8 chars encode
order_of_limits = (refl, refl, refl, refl, refl, refl)

-- at the limits of this project
small_files : (paragraphs_within (codes "a:1\n\nb")
    ≡ record { first = 1; lines = codes "a:1" ∷ [] }
    ∷ record { first = 3; lines = codes "b" ∷ [] } ∷ [])
    × (answer_of_first None [] ≡ Ok None)
    × (answer_of_first (Some 3) [] ≡ Err (record { code = FileTooLong; line = 3 }))
    × (answer_of_first None (record { first = 1; lines = codes "a:1" ∷ [] } ∷ [])
    ≡ Ok (Some first_seen))
    × (next_begin (codes "\na\n") 0 ≡ Ok (Some 2)) × (next_begin (codes "\na\n") 1 ≡ Ok None)
unfolding paragraph_limit file_limit is_utf8 chars encode
small_files = (refl, refl, refl, refl, refl, refl)

limits_of_answers : (answer_of_first ≡ answer_of_first_under 16777216)
    × (paragraphs_within ≡ paragraphs_within_under 16777216 4294967295)
    × (next_answer ≡ next_answer_under 16777216 4294967295)
    × (next_begin ≡ next_begin_under 16777216 4294967295)
unfolding paragraph_limit file_limit
limits_of_answers = (refl, refl, refl, refl)

-- where the next paragraph begins: a paragraph is there however long it is and whatever it holds
begins : (next_begin_under 1 99 (codes "\na\nb\n") 0 ≡ Ok (Some 2))
    × (next_begin_under 99 4 (codes "\na\nb\n") 0 ≡ Ok (Some 2))
    × (next_begin_under 99 2 (codes "\na\nb\n") 0 ≡ Err (record { code = FileTooLong; line = 2 }))
    × (next_begin_under 99 5 (codes "\na\nb\n") 1 ≡ Ok None)
    × (next_begin_under 99 4 (codes "\na\nb\n") 1 ≡ Err (record { code = FileTooLong; line = 3 }))
begins = (refl, refl, refl, refl, refl)

-- Where a reader is in a text, what is ahead of it, and what its calls find there. Debian Policy
-- 5.1; the limits are this project's own.
use Rattle.std.specs.Prelude.{◌≡◌, ℕ, ◌+◌, ◌<◌, ◌≤◌, ◌⊎◌, true, List, [], ◌∷◌, ◌++◌, length, take, drop, Option, Some, None, Result, Ok, Err, IsTrue, codes, refl}
use Rattle.std.specs.Str.{is_utf8, chars}
use lib.Utf8.{encode}
use Rattle.deb_base.specs.Bodies.{HasNoNewline, pieces_of, paragraph_limit, file_limit}
use Rattle.deb_base.specs.Faults.{IsReadersFault}
use Rattle.deb_base.specs.declared.code.Code.TheVariants.{FileTooLong}
use Rattle.deb_base.specs.declared.fault.Fault.{Fault}
use Rattle.deb_base.specs.declared.refusal.Refusal.{Refusal}
use Rattle.deb_base.specs.Reading.{piece_limit}
use Rattle.deb_syntax.specs.Answers.{Seen, part_within, line_beyond, answer_of_first, begin_of_first, next_answer, next_begin}
use Rattle.deb_syntax.specs.CurrentParagraphs.{EndsOverlong}
use Rattle.deb_syntax.specs.Cursors.{CursorState}
use Rattle.deb_syntax.specs.Extents.{AreNotBlank}
use Rattle.deb_syntax.specs.LineEnds.{line_ends}
use Rattle.deb_syntax.specs.Lines.{IsClosed, lines_of, ends_line, paragraphs_from, paragraphs_of, total_length}
use Rattle.deb_syntax.specs.NextLines.{IsNear}
use Rattle.deb_syntax.specs.declared.ending.Extent.{Extent}
use Rattle.deb_syntax.specs.declared.first.FirstLine.{FirstLine}
use Rattle.deb_syntax.specs.declared.first.FirstLine.TheVariants.{NoMore, Buffered, TooLong}

-- the answer on a text where so many bytes may be looked at, and whose first line has number n
abbrev pub left_answer : ℕ → ℕ → List ℕ → Result (Option Seen) Refusal
left_answer n room text =
    answer_of_first (line_beyond n room text) (paragraphs_from n (lines_of (part_within room text)))

abbrev pub left_begin : ℕ → ℕ → List ℕ → Result (Option ℕ) Refusal
left_begin n room text =
    begin_of_first (line_beyond n room text) (paragraphs_from n (lines_of (part_within room text)))

-- what has passed of a text: its first bytes
abbrev pub passed_of : List ℕ → CursorState → List ℕ
passed_of text cursor = take cursor.bytes text

-- A reader is in a text: this is what has passed, then bytes that were dropped, then those that are
-- unread, then what the source has left. What has passed is closed, or nothing follows it.
pub record At (text dropped : List ℕ) (cursor : CursorState) (left : Option (List ℕ))
    : Type 0 where
  pub rest : List ℕ
  pub told : left ≡ Some rest
  pub whole : text ≡ passed_of text cursor ++ (dropped ++ (cursor.unread ++ rest))
  pub bytes : cursor.bytes ≡ length (passed_of text cursor)
  pub lines : cursor.lines ≡ length (lines_of (passed_of text cursor))
  pub closed : IsClosed (passed_of text cursor) ⊎ (dropped ++ (cursor.unread ++ rest) ≡ [])
  pub ended : IsTrue cursor.ended → rest ≡ []

-- only blank lines have passed
abbrev pub Skips : List ℕ → CursorState → List ℕ → CursorState → Option (List ℕ) → Type 0
Skips text before dropped after left =
    At text dropped after left
    × (paragraphs_of (passed_of text after) ≡ paragraphs_of (passed_of text before))

-- The first `kept` unread bytes are lines of a paragraph, the last of which ends at `end`.
pub record KeepsLines (end kept : ℕ) (cursor : CursorState) : Type 0 where
  pub within : kept ≤ length cursor.unread
  pub room : cursor.bytes + kept ≤ file_limit
  pub near : length (drop kept cursor.unread) ≤ piece_limit
  pub not_blank : AreNotBlank (lines_of (take kept cursor.unread))
  pub total : total_length (lines_of (take kept cursor.unread)) ≡ end + 1
  pub pieces : pieces_of (take end cursor.unread) ≡ lines_of (take kept cursor.unread)
  pub low : end ≤ kept
  pub high : kept ≤ end + 1
  pub short : end < paragraph_limit
  pub closed : (ends_line (take kept cursor.unread) ≡ true)
      ⊎ (IsTrue cursor.ended × (kept ≡ length cursor.unread))

-- They are one line.
pub record KeepsLine (end kept : ℕ) (cursor : CursorState) : Type 0 where
  pub lines : KeepsLines end kept cursor
  pub one : line_ends (take kept cursor.unread) ≡ end ∷ []
  pub first_near : IsNear cursor.unread

-- what is said of a cursor after an answer where the first line is that isn't blank, for every
-- source
abbrev pub HasFirst : Result FirstLine Fault → CursorState → Type 0
HasFirst (Ok NoMore) after = after.unread ≡ []
HasFirst (Ok (Buffered end next)) after = KeepsLine end next after
HasFirst (Ok (TooLong len)) after =
    (paragraph_limit ≤ len) × EndsOverlong len after × IsNear after.unread
    × (after.bytes + len + length after.unread ≤ file_limit + piece_limit)
HasFirst (Err fault) after = Unit {0}

-- And where it is in a text.
abbrev pub IsFirst : List ℕ → CursorState → Result FirstLine Fault → CursorState → Option (List ℕ)
    → Type 0
IsFirst text before (Ok NoMore) after left = Skips text before [] after left × IsTrue after.ended
IsFirst text before (Ok (Buffered end next)) after left = Skips text before [] after left
IsFirst text before (Ok (TooLong len)) after left =
    (dropped : List ℕ) × Skips text before dropped after left × (length dropped ≡ len)
    × HasNoNewline dropped
IsFirst text before (Err fault) after left =
    IsReadersFault fault (λ refusal.
    (next_answer text (length (paragraphs_of (passed_of text before))) ≡ Err refusal)
    × (next_begin text (length (paragraphs_of (passed_of text before))) ≡ Err refusal))

-- The lines of a paragraph end at `end` of the unread bytes; with the blank line after it, or the
-- file's end, it is `bytes` bytes and `lines` lines of the file, and `skip` unread ones.
pub record IsExtentOf (e : Extent) (cursor : CursorState) : Type 0 where
  pub not_blank : AreNotBlank (pieces_of (take e.end cursor.unread))
  pub short : total_length (pieces_of (take e.end cursor.unread)) ≤ paragraph_limit
  pub end_within : e.end ≤ length cursor.unread
  pub skip_within : e.skip ≤ length cursor.unread
  pub within : cursor.bytes + e.bytes ≤ file_limit
  pub few : e.lines ≤ e.bytes
  pub counted : length (pieces_of (take e.end cursor.unread)) ≤ e.lines
  pub near : length (drop e.skip cursor.unread) ≤ piece_limit

-- nothing has passed
pub record SameCounts (before after : CursorState) : Type 0 where
  pub bytes : after.bytes ≡ before.bytes
  pub lines : after.lines ≡ before.lines

-- of a text from line 5 on: what is answered of its first paragraph, and where that begins
texts_from_line_5 : (left_answer 5 99 (codes "a:1\n\nb")
    ≡ Ok (Some (record {
      first = 5;
      fields = record { name = codes "a"; line = 5; body = codes "1" } ∷ [];
    })))
    × (left_answer 5 99 (codes "\n \n") ≡ Ok None)
    × (left_answer 5 4 (codes "a:1\nb") ≡ Err (record { code = FileTooLong; line = 6 }))
    × (left_begin 5 99 (codes "\n\na") ≡ Ok (Some 7)) × (left_begin 5 99 (codes "\n") ≡ Ok None)
    × (left_begin 5 4 (codes "\n\na\nb") ≡ Ok (Some 7))
    × (left_begin 5 3 (codes "\n\na\nb") ≡ Err (record { code = FileTooLong; line = 7 }))
unfolding paragraph_limit is_utf8 chars encode
texts_from_line_5 = (refl, refl, refl, refl, refl, refl, refl)

-- the bytes that are counted have passed
two_passed : passed_of (codes "a\n\nb") (record {
  unread = codes "b";
  held = 9;
  bytes = 3;
  lines = 2;
  ended = true;
}) ≡ codes "a\n\n"
two_passed = refl

-- What is in the buffer of a reader of paragraphs: the paragraph that was found last, and the
-- line that is discarded.
use Rattle.std.specs.Prelude.{◌≡◌, ◌<◌, ◌≤◌, ◌+◌, [], length, ℕ, ◌&&◌, Bool, true, nat_le, List, Option, Some, None, IsTrue, get_or, slice_range, false, ◌∷◌, codes, refl}
use Rattle.std.specs.Str.{is_utf8, chars}
use lib.Utf8.{encode}
use Rattle.std.specs.List.{list_all}
use Rattle.deb_base.specs.Bodies.{newline, paragraph_limit, file_limit}
use Rattle.deb_base.specs.Kinds.{known_row, row_count}
use Rattle.deb_base.specs.declared.known_fields.FieldId.{FieldId}
use Rattle.deb_syntax.specs.declared.field_span.FieldSpan.{FieldSpan}
use Rattle.deb_syntax.specs.declared.paragraphs.CurrentParagraph.{CurrentParagraph}
use Rattle.deb_syntax.specs.Answers.{Seen}
use Rattle.deb_syntax.specs.Cursors.{CursorState}
use Rattle.deb_syntax.specs.Fields.{are_fields, are_numbered}
use Rattle.deb_syntax.specs.FieldSpans.{fields_at, lies_within}

-- what is in a buffer, with its fields in the spans
abbrev pub current_of : List ℕ → List FieldSpan → CurrentParagraph → Seen
current_of buffer spans at =
    record { first = at.first_line; fields = fields_at (slice_range buffer at.from at.to) spans }

-- whether it lies within the buffer, its fields within it, and they can be a paragraph's, with
-- lines counted from 1
abbrev pub stands_within : List ℕ → List FieldSpan → Option CurrentParagraph → Bool
stands_within buffer spans None = true
stands_within buffer spans (Some at) =
    nat_le at.from at.to && nat_le at.to (length buffer)
    && list_all (lies_within (slice_range buffer at.from at.to)) spans
    && (are_fields (current_of buffer spans at).fields
    && are_numbered at.first_line (current_of buffer spans at).fields)

-- so many bytes of the file are discarded, which end before the unread bytes: with a newline,
-- or with the file
abbrev pub EndsOverlong : ℕ → CursorState → Type 0
EndsOverlong overlong_len cursor =
    (cursor.bytes + overlong_len ≤ file_limit) × (length cursor.unread ≡ 0 → IsTrue cursor.ended)
    × (0 < length cursor.unread → (get_or cursor.unread 0 newline ≡ newline)
    × (cursor.bytes + overlong_len + 1 ≤ file_limit))

-- a discarded line, if there is one, is longer than a paragraph may be, its newline counted, and
-- ends there
abbrev pub HidesLong : ℕ → CursorState → Type 0
HidesLong overlong_len cursor = 0 < overlong_len
    → (paragraph_limit ≤ overlong_len) × EndsOverlong overlong_len cursor

-- for the worked cases: a buffer in which bytes have passed and others are unread, and the spans
-- of the fields of `A: 1`, ` 2` and `B:` in their paragraph
abbrev buffer : List ℕ
buffer = codes "\n\nA: 1\n 2\nB:\nC"

abbrev other : FieldId
other = record { 0 = row_count }

abbrev two_spans : List FieldSpan
two_spans =
    record { line = 5; start = 0; colon = 1; end = 7; id = other }
    ∷ record { line = 7; start = 8; colon = 9; end = 10; id = other } ∷ []

abbrev two_fields : Seen
two_fields = record {
  first = 5;
  fields = record { name = codes "A"; line = 5; body = codes "1\n 2" }
      ∷ record { name = codes "B"; line = 7; body = [] } ∷ [];
}

paragraph_in_buffer : current_of buffer two_spans (record { from = 2; to = 12; first_line = 5 })
    ≡ two_fields
paragraph_in_buffer = refl

-- none, and one that is whole
paragraphs_within_buffer : (stands_within buffer two_spans None ≡ true)
    × (stands_within buffer two_spans (Some (record { from = 2; to = 12; first_line = 5 })) ≡ true)
unfolding paragraph_limit is_utf8 chars encode known_row
paragraphs_within_buffer = (refl, refl)

-- it ends before it begins, goes beyond the buffer, or a field goes beyond it; its first line has
-- no number, or two fields have one name
paragraphs_beyond_buffer : (stands_within buffer []
    (Some (record { from = 12; to = 2; first_line = 5 })) ≡ false)
    × (stands_within buffer two_spans (Some (record { from = 2; to = 99; first_line = 5 }))
    ≡ false)
    × (stands_within buffer two_spans (Some (record { from = 2; to = 11; first_line = 5 }))
    ≡ false)
    × (stands_within buffer two_spans (Some (record { from = 2; to = 12; first_line = 0 }))
    ≡ false)
    × (stands_within (codes "A:a:") (record { line = 1; start = 0; colon = 1; end = 2; id = other }
    ∷ record { line = 2; start = 2; colon = 3; end = 4; id = other } ∷ [])
    (Some (record { from = 0; to = 4; first_line = 1 })) ≡ false)
unfolding paragraph_limit is_utf8 chars encode known_row
paragraphs_beyond_buffer = (refl, refl, refl, refl, refl)

-- The line after the bytes that are kept, and what comes of a source for it. Debian Policy 5.1; the
-- limits are this project's own.
use Rattle.std.specs.Prelude.{◌≡◌, ◌≢◌, ℕ, ◌+◌, ◌<◌, ◌≤◌, ◌⊎◌, Bool, true, false, List, [], ◌∷◌, ◌++◌, length, take, drop, slice_index, slice_range, Option, IsTrue}
use Rattle.std.specs.Io.KnownBytes.{Consumes, IsAtEnd}
use Rattle.deb_base.specs.Bodies.{newline, HasNoNewline, is_all_blank, is_blank, paragraph_limit, file_limit}
use Rattle.deb_base.specs.Reading.{piece_limit}
use Rattle.deb_syntax.specs.Cursors.{CursorState, KeepsFirst}
use Rattle.deb_syntax.specs.declared.line.Dropped.{Dropped}
use Rattle.deb_syntax.specs.declared.line.NextLine.{NextLine}
use Rattle.deb_syntax.specs.declared.line.NextLine.TheVariants.{Blank, Whole, Overlong, Cut, Ended}

-- After each newline among these bytes are no more than one piece.
abbrev pub IsNear : List ℕ → Type 0
IsNear bytes = (front more : List ℕ) → bytes ≡ front ++ newline ∷ more → length more ≤ piece_limit

-- these bytes of a line were dropped
pub record Describes (dropped : Dropped) (bytes : List ℕ) : Type 0 where
  pub len : dropped.len ≡ length bytes
  pub blank : dropped.blank ≡ is_all_blank bytes

-- What a line is after so many kept bytes, the last `part` bytes of which are unread after them,
-- and which has a newline of so many bytes.
abbrev pub IsEndedLine : (line : List ℕ) → (kept part ending : ℕ) → NextLine → Type 0
IsEndedLine line kept part ending (Blank bytes next) =
    (is_blank line ≡ true) × (0 < bytes) × (bytes ≡ length line + ending)
    × (next ≡ kept + part + ending)
IsEndedLine line kept part ending (Whole end next) =
    (is_blank line ≡ false) × (kept + length line < paragraph_limit) × (end ≡ kept + part)
    × (next ≡ end + ending)
IsEndedLine line kept part ending (Overlong len end) =
    (is_blank line ≡ false) × (paragraph_limit ≤ kept + length line) × (len ≡ length line)
    × (end ≡ kept + part)
IsEndedLine line kept part ending Cut = ⊥
IsEndedLine line kept part ending Ended = (line ≡ []) × (ending ≡ 0)

-- the first newline from `seen` on
pub record IsNewline (bytes : List ℕ) (seen end : ℕ) : Type 0 where
  pub after : seen ≤ end
  pub within : end < length bytes
  pub here : slice_index bytes end ≡ newline
  pub none : HasNoNewline (slice_range bytes seen end)

-- If the bytes after the first `kept` ones and these take all that a paragraph may have, they are
-- dropped.
abbrev pub DropsLong : ℕ → CursorState → Dropped → CursorState → Dropped → Type 0
DropsLong kept before dropped after result =
    ((after ≡ before) × (result ≡ dropped) × (length before.unread < paragraph_limit))
    ⊎ (KeepsFirst before kept after × (paragraph_limit ≤ length before.unread + dropped.len)
    × ((bytes : List ℕ) → Describes dropped bytes
    → Describes result (bytes ++ drop kept before.unread)))

-- nothing has passed, and a source that had nothing left at the end hasn't either
pub record KeepsCounts (before : CursorState) (left : Option (List ℕ)) (after : CursorState)
    (left_after : Option (List ℕ)) : Type 0 where
  pub bytes : after.bytes ≡ before.bytes
  pub lines : after.lines ≡ before.lines
  pub ended : IsTrue before.ended → IsTrue after.ended
  pub at_end : (IsTrue before.ended → IsAtEnd left) → IsTrue after.ended → IsAtEnd left_after

-- a line ends with its newline, or with the file
abbrev pub EndsLine : (line ending more : List ℕ) → Bool → Type 0
EndsLine line ending more ended =
    (ending ≡ newline ∷ []) ⊎ ((ending ≡ []) × (more ≡ []) × IsTrue ended × (line ≢ []))

-- A line follows the first `kept` unread bytes: the bytes after them and those that came for it are
-- the line, its ending, and no more than one piece.
pub record ReadsLine (kept : ℕ) (before : CursorState) (left : Option (List ℕ))
    (after : CursorState) (left_after : Option (List ℕ)) : Type 0 where
  pub came : List ℕ
  pub line : List ℕ
  pub ending : List ℕ
  pub more : List ℕ
  pub consumed : Consumes left left_after came
  pub quiet : IsTrue before.ended → came ≡ []
  pub whole : before.unread ++ came ≡ take kept before.unread ++ (line ++ (ending ++ more))
  pub no_newline : HasNoNewline line
  pub ends : EndsLine line ending more after.ended
  pub near : length more ≤ piece_limit
  pub room : before.bytes + (kept + (length line + length ending)) ≤ file_limit

-- the file has a byte too many before the line after the first `kept` unread bytes ends
pub record CutsLine (kept : ℕ) (before : CursorState) (left left_after : Option (List ℕ))
    : Type 0 where
  pub came : List ℕ
  pub line : List ℕ
  pub more : List ℕ
  pub consumed : Consumes left left_after came
  pub quiet : IsTrue before.ended → came ≡ []
  pub whole : before.unread ++ came ≡ take kept before.unread ++ (line ++ more)
  pub no_newline : HasNoNewline line
  pub beyond : 0 < length more
  pub room : before.bytes + (kept + length line) ≡ file_limit

-- the kept bytes have stayed, and from this offset on these bytes are unread
pub record Leaves (kept : ℕ) (before : CursorState) (at : ℕ) (more : List ℕ)
    (after : CursorState) : Type 0 where
  pub kept_same : take kept after.unread ≡ take kept before.unread
  pub behind : drop at after.unread ≡ more
  pub order : kept ≤ at
  pub within : at ≤ length after.unread

-- what is answered of the line after the first `kept` unread bytes
abbrev pub IsNextLine : ℕ → CursorState → Option (List ℕ) → NextLine → CursorState
    → Option (List ℕ) → Type 0
IsNextLine kept before left (Blank bytes next) after left_after =
    (r : ReadsLine kept before left after left_after) × (is_blank r.line ≡ true) × (0 < bytes)
    × (bytes ≡ length r.line + length r.ending) × Leaves kept before next r.more after
IsNextLine kept before left (Whole end next) after left_after =
    (r : ReadsLine kept before left after left_after) × (is_blank r.line ≡ false)
    × (kept + length r.line < paragraph_limit) × (end ≡ kept + length r.line)
    × (next ≡ end + length r.ending) × (after.unread ≡ before.unread ++ r.came)
IsNextLine kept before left (Overlong len end) after left_after =
    (r : ReadsLine kept before left after left_after) × (is_blank r.line ≡ false)
    × (paragraph_limit ≤ kept + length r.line) × (len ≡ length r.line)
    × Leaves kept before end (r.ending ++ r.more) after
IsNextLine kept before left Cut after left_after = CutsLine kept before left left_after
IsNextLine kept before left Ended after left_after =
    (kept ≡ length before.unread) × (after.unread ≡ before.unread) × IsTrue after.ended
    × Consumes left left_after []

-- at most one piece beyond a line's end
pieces_behind_lines : (bytes front more : List ℕ) → IsNear bytes → bytes ≡ front ++ newline ∷ more
    → length more ≤ 65536
pieces_behind_lines bytes front more near whole = near front more whole

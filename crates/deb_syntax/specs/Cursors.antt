-- A file that is read by pieces: the bytes of it that are unread, and how far it may be looked at
-- (this project's own).
use Rattle.std.specs.Prelude.{◌≡◌, ℕ, ◌+◌, ◌-◌, ◌<◌, ◌≤◌, Bool, false, List, [], ◌++◌, length, take, drop, slice_range, vec_len, Option, Some, None, IsSome, Result, OnOk, OnErr, IfErr, IsErrOf, IsTrue, IsFalse, codes, refl}
use Rattle.std.specs.Io.KnownBytes.{Consumes, IsAtEnd}
use Rattle.deb_base.specs.Bodies.{file_limit}
use Rattle.deb_base.specs.Devices.{Shown, read_failures_after}
use Rattle.deb_base.specs.Reading.{piece_limit, IsMemoryOrRead}
use Rattle.deb_base.specs.declared.fault.Fault.{Fault}
use Rattle.deb_base.specs.declared.fault.Fault.TheVariants.{Memory}
use Rattle.deb_syntax.specs.declared.read_buffer.ReadBuffer.{ReadBuffer}
use Rattle.deb_syntax.specs.declared.file_cursor.FileCursor.{FileCursor}
use Rattle.deb_syntax.specs.declared.file_cursor.Visible.{Visible}
use Rattle.deb_syntax.specs.declared.file_cursor.End.{End}
use Rattle.deb_syntax.specs.declared.file_cursor.End.TheVariants.{More, Eof, Limit}

-- the bytes of a buffer that haven't passed
abbrev pub unread_of : ReadBuffer → List ℕ
unread_of buffer = slice_range buffer.buffer.items buffer.start buffer.filled

-- one piece of `count` bytes, which the reader had left and has no longer, came after the unread
-- bytes
pub record Fills (before : ReadBuffer) (left : Option (List ℕ)) (count : ℕ) (after : ReadBuffer)
    (left_after : Option (List ℕ)) : Type 0 where
  pub piece : List ℕ
  pub counted : length piece ≡ count
  pub short : count ≤ piece_limit
  pub unread : unread_of after ≡ unread_of before ++ piece
  pub consumed : Consumes left left_after piece
  pub at_end : count ≡ 0 → IsAtEnd left_after

-- what has come of a file and hasn't passed; the length of the buffer, room included; how many
-- bytes and lines of the file have passed; whether a read has returned its end
pub record CursorState : Type 0 where
  pub unread : List ℕ
  pub held : ℕ
  pub bytes : ℕ
  pub lines : ℕ
  pub ended : Bool

abbrev pub cursor_state : FileCursor → CursorState
cursor_state cursor =
    record {
      unread = unread_of cursor.buffer;
      held = vec_len cursor.buffer.buffer;
      bytes = cursor.bytes;
      lines = cursor.lines;
      ended = cursor.ended;
    }

-- all bytes of the buffer: such as have passed, the unread ones, and room
abbrev pub buffer_of : FileCursor → List ℕ
buffer_of cursor = cursor.buffer.buffer.items

-- where the unread bytes begin in the buffer
abbrev pub start_of : FileCursor → ℕ
start_of cursor = cursor.buffer.start

-- One piece, which the reader had left and has no longer, came after the unread bytes. It is empty
-- exactly at the end.
pub record Comes (before : CursorState) (left : Option (List ℕ)) (after : CursorState)
    (left_after : Option (List ℕ)) : Type 0 where
  pub piece : List ℕ
  pub short : length piece ≤ piece_limit
  pub unread : after.unread ≡ before.unread ++ piece
  pub bytes : after.bytes ≡ before.bytes
  pub lines : after.lines ≡ before.lines
  pub ended : IsTrue after.ended → piece ≡ []
  pub more : IsFalse after.ended → 0 < length piece
  pub consumed : Consumes left left_after piece
  pub at_end : IsTrue after.ended → IsAtEnd left_after

-- how many bytes a source has left, where it shows them
abbrev pub left_count : Option (List ℕ) → ℕ
left_count None = 0
left_count (Some rest) = length rest

-- how many bytes of a file have passed or are unread
abbrev pub had : CursorState → ℕ
had state = state.bytes + length state.unread

-- `n` bytes and what a source had left are at most `m` bytes and what it has left afterwards: where
-- `n` bytes of a file were taken before, no more than `m` were by then. A source that shows what it
-- has left goes on doing so.
pub record Takes (n : ℕ) (left : Option (List ℕ)) (m : ℕ) (left_after : Option (List ℕ))
    : Type 0 where
  pub shown : IsSome left → IsSome left_after
  pub few : n + left_count left ≤ m + left_count left_after

-- Nothing came, and nothing of the file has changed but the room after it.
pub record Stays (before : CursorState) (left : Option (List ℕ)) (after : CursorState)
    (left_after : Option (List ℕ)) : Type 0 where
  pub unread : after.unread ≡ before.unread
  pub bytes : after.bytes ≡ before.bytes
  pub lines : after.lines ≡ before.lines
  pub ended : after.ended ≡ before.ended
  pub kept : Consumes left left_after []

-- A call that takes one piece of a reader.
pub record TakesPiece (before : CursorState) (shown : Shown) {T : Type 0} (result : Result T Fault)
    (after : CursorState) (shown_after : Shown) : Type 0 where
  pub taken : OnOk result (Comes before shown.bytes after shown_after.bytes)
  pub failed : OnErr result (Stays before shown.bytes after shown_after.bytes)
  pub fault : IfErr result IsMemoryOrRead
  pub untouched : IsErrOf result Memory → shown_after ≡ shown
  pub counted : shown_after.failures ≡ read_failures_after shown.failures result

-- how many bytes of the unread ones and after them may be looked at, where so many bytes of the
-- file are discarded
abbrev pub room_of : CursorState → ℕ → ℕ
room_of state overlong_len = file_limit - state.bytes - overlong_len

-- what follows the unread bytes that may be looked at: the byte that the file has too many;
-- nothing; or what the reader has left
abbrev pub IsEnd : CursorState → ℕ → End → Type 0
IsEnd state overlong_len Limit = room_of state overlong_len < length state.unread
IsEnd state overlong_len Eof = (length state.unread ≤ room_of state overlong_len)
    × IsTrue state.ended
IsEnd state overlong_len More = (length state.unread ≤ room_of state overlong_len)
    × IsFalse state.ended

-- what is seen of a file, where so many bytes are discarded
pub record Sees (state : CursorState) (overlong_len : ℕ) (visible : Visible) : Type 0 where
  pub seen : visible.bytes.now ≡ take (room_of state overlong_len) state.unread
  pub tail : IsEnd state overlong_len visible.ends

-- so many unread bytes, which are bytes and lines of the file, have passed
pub record PassesOn (before : CursorState) (skip more_bytes more_lines : ℕ)
    (after : CursorState) : Type 0 where
  pub unread : after.unread ≡ drop skip before.unread
  pub held : after.held ≡ before.held
  pub bytes : after.bytes ≡ before.bytes + more_bytes
  pub lines : after.lines ≡ before.lines + more_lines
  pub ended : after.ended ≡ before.ended

-- the unread bytes after the first ones are forgotten
pub record KeepsFirst (before : CursorState) (count : ℕ) (after : CursorState) : Type 0 where
  pub unread : after.unread ≡ take count before.unread
  pub held : after.held ≡ before.held
  pub bytes : after.bytes ≡ before.bytes
  pub lines : after.lines ≡ before.lines
  pub ended : after.ended ≡ before.ended

-- a file that is too long is known from one piece beyond
longest_piece : (piece_limit ≡ 65536) × (file_limit + piece_limit ≡ 4295032831)
unfolding file_limit
longest_piece = (refl, refl)

-- five bytes below the most that a file may have have passed, and two are unread
abbrev near_end : CursorState
near_end = record {
  unread = codes "ab";
  held = 9;
  bytes = 4294967290;
  lines = 1;
  ended = false;
}

counted_bytes : (had near_end ≡ 4294967292) × (room_of near_end 0 ≡ 5) × (room_of near_end 2 ≡ 3)
    × (left_count None ≡ 0) × (left_count (Some (codes "abc")) ≡ 3)
unfolding file_limit
counted_bytes = (refl, refl, refl, refl, refl)

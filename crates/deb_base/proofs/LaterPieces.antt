-- The pieces of a text after the first one, and which pieces aren't blank.
use Rattle.std.proofs.Common.{◌≡◌, ℕ, ◌==◌, ◌&&◌, true, false, not, IsTrue, List, [], ◌∷◌, ◌++◌, drop, leb, refl, ◌∙◌}
use Rattle.std.proofs.lemmas.Bool.{and_parts, and_left, and_right, not-true}
use Rattle.std.specs.List.{AllByRecursion, list_all}
use Rattle.deb_base.specs.Bodies.{Line, newline, with_byte, pieces_of, line_length, paragraph_limit, is_blank_byte, is_all_blank, is_blank, HasNoNewline}
use Rattle.deb_base.specs.Bodies.{begins_with_blank, ends_with_blank, is_continuation, is_body_shape}
use Rattle.deb_base.proofs.FieldBytes.{each_from_list_all}

-- none of the lines is blank
abbrev pub HoldNoBlank : List Line → Type 0
HoldNoBlank lines = AllByRecursion (λ line. is_blank line ≡ false) lines

drop-with_byte : (b : ℕ) (lines : List Line) → drop 1 (with_byte b lines) ≡ drop 1 lines
drop-with_byte b [] = refl
drop-with_byte b (line ∷ lines) = refl

pub later_pieces-cons : (b : ℕ) (text : List ℕ) → (b == newline) ≡ false → drop 1 (pieces_of (b ∷ text)) ≡ drop 1 (pieces_of text)
later_pieces-cons b text h = rw h (drop-with_byte b (pieces_of text))

-- a prefix without a newline is in the first piece
pub later_pieces-append : (front text : List ℕ) → HasNoNewline front → drop 1 (pieces_of (front ++ text)) ≡ drop 1 (pieces_of text)
later_pieces-append [] text h = refl
later_pieces-append (b ∷ front) text h = later_pieces-cons b (front ++ text) h.0 ∙ later_pieces-append front text h.1

is_blank-cons : (b : ℕ) (line : Line) → is_blank_byte b ≡ false → is_blank (b ∷ line) ≡ false
is_blank-cons b line h = and_right (leb (line_length (b ∷ line)) paragraph_limit) (is_all_blank (b ∷ line)) (and_left (is_blank_byte b) (is_all_blank line) h)

HoldNoBlank-with_byte : (b : ℕ) (lines : List Line) → is_blank_byte b ≡ false → HoldNoBlank (drop 1 lines) → HoldNoBlank (with_byte b lines)
HoldNoBlank-with_byte b [] h k = (is_blank-cons b [] h, tt)
HoldNoBlank-with_byte b (line ∷ lines) h k = (is_blank-cons b line h, k)

-- the pieces of a text aren't blank where its first byte isn't, and the later pieces aren't
pub HoldNoBlank-pieces_of : (b : ℕ) (text : List ℕ) → is_blank_byte b ≡ false → (b == newline) ≡ false → HoldNoBlank (drop 1 (pieces_of text)) → HoldNoBlank (pieces_of (b ∷ text))
HoldNoBlank-pieces_of b text h e k = rw e (HoldNoBlank-with_byte b (pieces_of text) h k)

is_blank-continuation : (line : Line) → is_continuation line ≡ true → is_blank line ≡ false
is_blank-continuation line h = not-true (is_blank line) (and_parts (begins_with_blank line) (not (is_blank line)) h).1

-- the later lines of a body aren't blank
pub HoldNoBlank-body : (body : List ℕ) → IsTrue (is_body_shape body) → HoldNoBlank (drop 1 (pieces_of body))
HoldNoBlank-body body h =
    each_from_list_all is_continuation (λ line. is_blank line ≡ false) is_blank-continuation (drop 1 (pieces_of body))
    (and_parts (not (begins_with_blank body) && not (ends_with_blank body)) (list_all is_continuation (drop 1 (pieces_of body))) h).1

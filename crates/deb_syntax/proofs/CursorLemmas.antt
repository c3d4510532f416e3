-- A file that is read by pieces: slices of its buffer, what a piece leaves of the text, and what is seen of it.
use Rattle.deb_base.specs.Bodies.{file_limit}
use Rattle.deb_syntax.proofs.Common.{◌≡◌, ℕ, ◌+◌, ◌-◌, ◌≤◌, List, [], ◌++◌, Option, Some, None, length, take, drop, slice_range, refl, sym, ap, ◌∙◌, arith, length-drop, take-add, drop-take, drop-drop, length-take-le, Consumes, IsAtEnd, cursor_state, buffer_of, start_of, FileCursor}
use Rattle.deb_syntax.proofs.Slices.{take-slice_range}

-- a slice of the first f bytes, which are the same
pub slice_range-same_front : (old new : List ℕ) (s f : ℕ) → s ≤ f → take f new ≡ take f old → slice_range new s f ≡ slice_range old s f
slice_range-same_front old new s f le h =
    let whole : s + (f - s) ≡ f = omega arith in
    sym (drop-take s (f - s) new) ∙ ap (λ k. drop s (take k new)) whole ∙ ap (drop s) h ∙ ap (λ k. drop s (take k old)) (sym whole) ∙ drop-take s (f - s) old

-- n bytes came after the first f, which are the same
pub slice_range-grown : (old new : List ℕ) (s f n : ℕ) → s ≤ f → take f new ≡ take f old → slice_range new s (f + n) ≡ slice_range old s f ++ take n (drop f new)
slice_range-grown old new s f n le h =
    let sizes : (f + n) - s ≡ (f - s) + n = omega arith in
    let whole : s + (f - s) ≡ f = omega arith in
    ap (λ k. take k (drop s new)) sizes ∙ take-add (f - s) n (drop s new)
    ∙ ap (λ zs. take (f - s) (drop s new) ++ take n zs) (drop-drop (f - s) s new ∙ ap (λ k. drop k new) whole)
    ∙ ap (λ zs. zs ++ take n (drop f new)) (slice_range-same_front old new s f le h)

pub unread_length : (cursor : FileCursor) → start_of cursor + length (cursor_state cursor).unread ≡ cursor.buffer.filled
unread_length cursor =
    let w = cursor.buffer in
    let size = length-take-le (w.filled - w.start) (drop w.start w.buffer.items) (omega (arith, length-drop w.start w.buffer.items, w.within, w.ordered, w.buffer.ok.0)) in
    omega (arith, size, w.ordered)

pub unread_within : (cursor : FileCursor) → start_of cursor + length (cursor_state cursor).unread ≤ (cursor_state cursor).held
unread_within cursor = omega (arith, unread_length cursor, cursor.buffer.within)

-- the first unread bytes, in the buffer
pub front_of_unread : (cursor : FileCursor) (n : ℕ) → n ≤ length (cursor_state cursor).unread → slice_range (buffer_of cursor) (start_of cursor) (start_of cursor + n) ≡ take n (cursor_state cursor).unread
front_of_unread cursor n le = sym (take-slice_range (buffer_of cursor) (start_of cursor) cursor.buffer.filled n (omega (arith, unread_length cursor, le)))

-- what has passed of a file is never too long
pub cursor_small : (cursor : FileCursor) → (cursor_state cursor).bytes ≤ file_limit
unfolding file_limit
cursor_small cursor = omega (arith, cursor.small)

pub cursor_few : (cursor : FileCursor) → (cursor_state cursor).lines ≤ (cursor_state cursor).bytes
cursor_few cursor = cursor.few

-- what a reader has left after the bytes that were taken
pub consumed_rest : (rest bytes : List ℕ) (left left_after : Option (List ℕ)) → left ≡ Some rest → Consumes left left_after bytes → (rest_after : List ℕ) × (left_after ≡ Some rest_after) × (rest ≡ bytes ++ rest_after)
consumed_rest rest bytes None left_after e c = absurd (cc)
consumed_rest rest bytes (Some xs) None e c = absurd c
consumed_rest rest bytes (Some xs) (Some ys) e c =
    let same : rest ≡ xs = cc in
    (ys, refl, same ∙ c)

pub at_end_rest : (rest : List ℕ) (left : Option (List ℕ)) → left ≡ Some rest → IsAtEnd left → rest ≡ []
at_end_rest rest None e h = absurd (cc)
at_end_rest rest (Some xs) e h =
    let same : rest ≡ xs = cc in
    same ∙ h

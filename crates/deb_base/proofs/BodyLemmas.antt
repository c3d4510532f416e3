-- The test of a body, and the pieces of a text as std cuts it.
use Rattle.std.proofs.Common.{◌≡◌, ℕ, zero, suc, ◌==◌, true, cond, List, [], ◌∷◌, length, get_or, refl, sym, ap, ◌∙◌, arith}
use Rattle.std.proofs.lemmas.Bool.{and_parts}
use Rattle.std.proofs.lemmas.Str.{IsUtf8-from_is_utf8, is_utf8-from_IsUtf8}
use Rattle.std.specs.List.{slice_split, onto_first}
use Rattle.std.specs.Str.{is_utf8}
use Rattle.deb_base.specs.Bodies.{Line, newline, with_byte, pieces_of, is_body_shape, is_blank_byte, ends_with_blank, is_body, IsBody}

with_byte-onto_first : (b : ℕ) (lines : List Line) → with_byte b lines ≡ onto_first b lines
with_byte-onto_first b [] = refl
with_byte-onto_first b (line ∷ lines) = refl

-- the pieces between newlines are what std's `split` gives
pub slice_split-pieces_of : (text : List ℕ) → slice_split (λ b. b == newline) text ≡ pieces_of text
slice_split-pieces_of [] = refl
slice_split-pieces_of (b ∷ bs) =
    ap (λ lines. cond (b == newline) ([] ∷ lines) (onto_first b lines)) (slice_split-pieces_of bs)
    ∙ ap (cond (b == newline) ([] ∷ pieces_of bs)) (sym (with_byte-onto_first b (pieces_of bs)))

-- what passes the test is a body
pub IsBody-from_test : (body : List ℕ) → is_body body ≡ true → IsBody body
IsBody-from_test body h =
    let parts = and_parts (is_body_shape body) (is_utf8 body) h in
    record { shape = parts.0; text = IsUtf8-from_is_utf8 body parts.1 }

-- a body passes the test
pub is_body-from_IsBody : (body : List ℕ) → IsBody body → is_body body ≡ true
is_body-from_IsBody body h = rw (h.shape, is_utf8-from_IsUtf8 body h.text) refl

-- the byte that ends a text
pub ends_with_blank-last : (text : List ℕ) (n : ℕ) → length text ≡ suc n → ends_with_blank text ≡ is_blank_byte (get_or text n 0)
ends_with_blank-last [] n long = absurd (omega arith)
ends_with_blank-last (b ∷ []) zero long = refl
ends_with_blank-last (b ∷ []) (suc n) long = absurd (omega arith)
ends_with_blank-last (b ∷ c ∷ bs) zero long = absurd (omega arith)
ends_with_blank-last (b ∷ c ∷ bs) (suc n) long = ends_with_blank-last (c ∷ bs) n (omega arith)

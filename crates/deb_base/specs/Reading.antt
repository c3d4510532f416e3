-- How a whole file is read, and how much of it. The limits are this project's own.
use Rattle.std.specs.Prelude.{◌≡◌, ◌⊎◌, ◌+◌, ◌<◌, ◌≤◌, List, [], ◌++◌, ℕ, length, Option, Some, codes, refl}
use Rattle.std.proofs.Common.{arith, inl, inr}
use Rattle.std.proofs.Math.Dec.{lit≤}
use Rattle.std.specs.Io.KnownBytes.{Consumes, IsAtEnd}
use Rattle.deb_base.specs.declared.fault.Fault.{Fault}
use Rattle.deb_base.specs.declared.fault.Fault.TheVariants.{Refused, Memory, Read, Write}

-- the most bytes that one read has room for
abbrev pub piece_limit : ℕ
piece_limit = 65536

-- At most one piece was taken of a text after the bytes that may be looked at.
pub record TakesNoMore (text : List ℕ) (room : ℕ) (left : Option (List ℕ)) : Type 0 where
  pub rest : List ℕ
  pub told : left ≡ Some rest
  pub few : length text ≤ room + piece_limit + length rest

-- One piece of so many bytes, which a source had left and has no longer, follows the bytes that
-- were read before. It is empty only at the end.
pub record TakesPiece (left : Option (List ℕ)) (read : List ℕ) (count : ℕ)
    (left_after : Option (List ℕ)) (read_after : List ℕ) : Type 0 where
  pub piece : List ℕ
  pub counted : length piece ≡ count
  pub behind : read_after ≡ read ++ piece
  pub consumed : Consumes left left_after piece
  pub at_end : count ≡ 0 → IsAtEnd left_after

-- all of a text, or more than so many bytes of it
pub record IsEnough (most : ℕ) (text read : List ℕ) : Type 0 where
  pub rest : List ℕ
  pub whole : text ≡ read ++ rest
  pub enough : (rest ≡ []) ⊎ (most < length read)

-- so much was read of the text that a source has left
abbrev pub ReadsEnough : ℕ → Option (List ℕ) → List ℕ → Type 0
ReadsEnough most left read = (text : List ℕ) → left ≡ Some text → IsEnough most text read

-- out of memory, or a read that failed
abbrev pub IsMemoryOrRead : Fault → Type 0
IsMemoryOrRead (Refused refusal) = ⊥
IsMemoryOrRead Memory = Unit {0}
IsMemoryOrRead Read = Unit {0}
IsMemoryOrRead Write = ⊥

-- enough of a text is read where it is read whole, or one byte beyond the most
whole_text : IsEnough 9 (codes "1\n2") (codes "1\n2")
whole_text = record { rest = []; whole = refl; enough = inl refl }

text_beyond_the_most : IsEnough 2 (codes "1\n23") (codes "1\n2")
text_beyond_the_most = record { rest = codes "3"; whole = refl; enough = inr (lit≤ tt) }

-- at most one piece beyond what may be looked at
pieces_beyond : (text : List ℕ) (room : ℕ) (left : Option (List ℕ))
    (takes : TakesNoMore text room left) → length text ≤ room + 65536 + length takes.rest
pieces_beyond text room left takes = takes.few

-- a piece follows what was read before
piece_read : TakesPiece (Some (codes "bcd")) (codes "a") 2 (Some (codes "d")) (codes "abc")
piece_read = record {
  piece = codes "bc";
  counted = refl;
  behind = refl;
  consumed = refl;
  at_end = λ none. absurd (omega (arith, none));
}

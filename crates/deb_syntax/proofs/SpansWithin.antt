-- Places that lie within a part of a buffer.
use Rattle.deb_syntax.proofs.Common.{◌≡◌, ℕ, ◌≤◌, ◌&&◌, Bool, true, List, length, slice_range, sym, subst, leb, IsTrue, list_all, and_from, le-leb, FieldSpan, lies_within}

-- the part lies within the buffer, and the spans within the part, where the fields are
pub within_test : (from to : ℕ) (buffer part : List ℕ) (spans : List FieldSpan) (fields : Bool) → from ≤ to → to ≤ length buffer → slice_range buffer from to ≡ part → IsTrue (list_all (lies_within part) spans) → fields ≡ true → IsTrue (leb from to && leb to (length buffer) && list_all (lies_within (slice_range buffer from to)) spans && fields)
within_test from to buffer part spans fields h k e within are = and_from _ _ (and_from _ _ (and_from _ _ (le-leb from to h) (le-leb to (length buffer) k)) (subst (λ zs. list_all (lies_within zs) spans ≡ true) (sym e) within)) are

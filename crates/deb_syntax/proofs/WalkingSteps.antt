-- Where the first newline of a text is, and a text without one.
use Rattle.deb_syntax.proofs.Common.{false_from_ne_true, ◌≡◌, ℕ, zero, suc, ◌<◌, true, List, [], ◌∷◌, ◌++◌, length, take, drop, slice_index, ap, arith, is_byte, newline, HasNoNewline}

-- the first newline ends a line
pub line-found : (text : List ℕ) (n : ℕ) → ((k : ℕ) → k < n → is_byte newline (slice_index text k) ≡ true → ⊥) → n < length text → HasNoNewline (take n text)
line-found [] n before lt = absurd (omega arith)
line-found (b ∷ bs) zero before lt = tt
line-found (b ∷ bs) (suc n) before lt =
    (false_from_ne_true _ (before 0 (omega arith)), line-found bs n (λ k h. before (suc k) (omega arith)) (omega arith))

-- a newline in a span parts a text
pub newline_at : (text : List ℕ) (n : ℕ) → n < length text → slice_index text n ≡ newline → text ≡ take n text ++ newline ∷ drop (suc n) text
newline_at [] n lt here = absurd (omega arith)
newline_at (b ∷ bs) zero lt here = ap (λ c. c ∷ bs) here
newline_at (b ∷ bs) (suc n) lt here = ap (λ zs. b ∷ zs) (newline_at bs n (omega arith) here)

-- a text without a newline is a line
pub line-none : (text : List ℕ) → ((k : ℕ) → k < length text → is_byte newline (slice_index text k) ≡ true → ⊥) → HasNoNewline text
line-none [] before = tt
line-none (b ∷ bs) before = (false_from_ne_true _ (before 0 (omega arith)), line-none bs (λ k h. before (suc k) (omega arith)))

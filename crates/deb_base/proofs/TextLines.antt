-- A text that is cut into pieces and joined again, and the lines of a text that is UTF-8.
use Rattle.std.proofs.Common.{ℕ, ◌<◌, List, [], ◌∷◌, ◌++◌, length, get_or, refl, subst, arith}
use Rattle.std.proofs.lemmas.List.{length-append, get_or_at, take_at, drop_at}
use Rattle.std.proofs.lemmas.Str.{IsUtf8-append, IsUtf8-take, IsUtf8-drop, IsUtf8-nil, IsUtf8-from_ascii, IsCharBoundary-before_ascii, IsCharBoundary-after_ascii}
use Rattle.std.proofs.lemmas.Str.Ascii.{IsAscii-cons, IsAscii-nil}
use Rattle.std.specs.List.{AllByRecursion}
use Rattle.std.specs.Str.{IsUtf8}
use Rattle.deb_base.specs.Bodies.{Line, newline, joined}

-- a text without the ASCII byte before it
pub IsUtf8-after_ascii : (b : ℕ) (bs : List ℕ) → b < 128 → IsUtf8 (b ∷ bs) → IsUtf8 bs
IsUtf8-after_ascii b bs h u = IsUtf8-drop (b ∷ bs) 1 u (IsCharBoundary-after_ascii (b ∷ bs) 0 u (omega arith) h)

-- what precedes an ASCII byte of a text
pub IsUtf8-before_ascii : (bs : List ℕ) (b : ℕ) (rest : List ℕ) → b < 128 → IsUtf8 (bs ++ b ∷ rest) → IsUtf8 bs
IsUtf8-before_ascii bs b rest h u =
    let short : length bs < length (bs ++ b ∷ rest) = omega (arith, length-append bs (b ∷ rest)) in
    let read : get_or (bs ++ b ∷ rest) (length bs) 0 < 128 = omega (arith, get_or_at bs b rest 0 (length bs) refl) in
    subst IsUtf8 (take_at bs (b ∷ rest) (length bs) refl) (IsUtf8-take (bs ++ b ∷ rest) (length bs) u (IsCharBoundary-before_ascii (bs ++ b ∷ rest) (length bs) short read))

-- what follows an ASCII byte of a text
pub IsUtf8-behind_ascii : (bs : List ℕ) (b : ℕ) (rest : List ℕ) → b < 128 → IsUtf8 (bs ++ b ∷ rest) → IsUtf8 (b ∷ rest)
IsUtf8-behind_ascii bs b rest h u =
    let short : length bs < length (bs ++ b ∷ rest) = omega (arith, length-append bs (b ∷ rest)) in
    let read : get_or (bs ++ b ∷ rest) (length bs) 0 < 128 = omega (arith, get_or_at bs b rest 0 (length bs) refl) in
    subst IsUtf8 (drop_at bs (b ∷ rest) (length bs) refl) (IsUtf8-drop (bs ++ b ∷ rest) (length bs) u (IsCharBoundary-before_ascii (bs ++ b ∷ rest) (length bs) short read))

-- an ASCII byte before a text
pub IsUtf8-with_ascii : (b : ℕ) (bs : List ℕ) → b < 128 → IsUtf8 bs → IsUtf8 (b ∷ bs)
IsUtf8-with_ascii b bs h u = IsUtf8-append (b ∷ []) bs (IsUtf8-from_ascii (b ∷ []) (IsAscii-cons b [] h IsAscii-nil)) u

-- lines of a text are text
pub IsUtf8-lines : (lines : List Line) → IsUtf8 (joined lines) → AllByRecursion IsUtf8 lines
IsUtf8-lines [] u = tt
IsUtf8-lines (line ∷ []) u = (u, tt)
IsUtf8-lines (line ∷ next ∷ lines) u = (
  IsUtf8-before_ascii line newline (joined (next ∷ lines)) (omega arith) u,
  IsUtf8-lines (next ∷ lines) (IsUtf8-after_ascii newline (joined (next ∷ lines)) (omega arith) (IsUtf8-behind_ascii line newline (joined (next ∷ lines)) (omega arith) u)),
)

-- lines that are text make a text
pub IsUtf8-joined : (lines : List Line) → AllByRecursion IsUtf8 lines → IsUtf8 (joined lines)
IsUtf8-joined [] h = IsUtf8-nil
IsUtf8-joined (line ∷ []) h = h.0
IsUtf8-joined (line ∷ next ∷ lines) h =
    IsUtf8-append line (newline ∷ joined (next ∷ lines)) h.0 (IsUtf8-with_ascii newline (joined (next ∷ lines)) (omega arith) (IsUtf8-joined (next ∷ lines) h.1))

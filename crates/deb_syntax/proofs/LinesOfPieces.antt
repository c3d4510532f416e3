-- The pieces of a text with a newline after it are its lines.
use Rattle.deb_syntax.proofs.Common.{◌≡◌, ℕ, ◌==◌, Bool, true, false, cond, List, [], ◌∷◌, ◌++◌, refl, sym, subst, Line, newline, pieces_of, lines_of}
use Rattle.deb_syntax.proofs.LinesLaws.{pieces_of-some}

-- there is a first one
abbrev pub IsNonempty : {X : Type 0} → List X → Type 0
IsNonempty [] = ⊥
IsNonempty (x ∷ xs) = Unit {0}

pub IsNonempty-pieces_of : (text : List ℕ) → IsNonempty (pieces_of text)
IsNonempty-pieces_of text = let some = pieces_of-some text in subst IsNonempty (sym some.2) tt

cond-append : (b : Bool) (xs ys zs : List Line) → cond b (xs ++ zs) (ys ++ zs) ≡ cond b xs ys ++ zs
cond-append true xs ys zs = refl
cond-append false xs ys zs = refl

-- with a newline after a text, its pieces are lines
pub lines_of-pieces : (text rest : List ℕ) → lines_of (text ++ newline ∷ rest) ≡ pieces_of text ++ lines_of rest
lines_of-pieces [] rest = refl
lines_of-pieces (b ∷ bs) rest =
    let some = pieces_of-some bs in
    rw (lines_of-pieces bs rest, some.2) (cond-append (b == newline) ([] ∷ some.0 ∷ some.1) ((b ∷ some.0) ∷ some.1) (lines_of rest))

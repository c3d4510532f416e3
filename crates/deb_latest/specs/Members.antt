-- The paragraphs of a list.
use Rattle.std.specs.Prelude.{◌≡◌, ◌⊎◌, List, [], ◌∷◌, refl}
use Rattle.std.proofs.Common.{inl, inr}
use Rattle.deb_latest.specs.Winning.{Entry}

-- A paragraph is one of a list.
abbrev pub Member : Entry → List Entry → Type 0
Member e [] = ⊥
Member e (x ∷ xs) = (x ≡ e) ⊎ Member e xs

worked-member : (first second : Entry) → Member second (first ∷ second ∷ [])
worked-member first second = inr (inl refl)

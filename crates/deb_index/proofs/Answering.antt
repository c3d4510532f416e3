-- A closure whose calls keep a fact answers by what that fact gives.
use Rattle.std.proofs.Common.{List, [], ◌∷◌}
use denote.Param.Members.{Mut}
use Rattle.std.specs.Fn.{AlwaysReturns, Called, ReturnsEach}

module _ {F X R : Type 0} (g : Mut F X R) (P : X → R → Type 0) (I : F → Type 0) (step : (f : F) (a : X) (r : R) (f' : F) → Called g f a r f' → I f → P a r × I f') where
  answering : (xs : List X) (f : F) → I f → ReturnsEach g P f xs
  answering [] f i = tt
  answering (a ∷ xs) f i = λ r f' c. ((step f a r f' c i).0, answering xs f' (step f a r f' c i).1)

  pub answers_while : (f : F) → I f → AlwaysReturns g P f
  answers_while f i = record { at = λ xs. answering xs f i }

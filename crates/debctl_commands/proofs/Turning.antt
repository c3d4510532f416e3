-- A step more, after those that were taken for other paths.
use Rattle.std.proofs.Common.{◌≡◌, ℕ, max, List, [], ◌∷◌, ◌++◌, Result, Ok, Err, inl, inr, refl, ap, subst, arith}
use Rattle.deb_base.specs.declared.fault.Fault.{Fault}
use Rattle.debctl_commands.specs.Turns.{InTurn}

module _ {F W : Type 0} (step : List ℕ → F → W → Result ℕ Fault → F → W → Type 0) where
  -- one more path behind those that were reported
  pub turn_more : (paths : List (List ℕ)) (path : List ℕ) (f₀ f₁ f₂ : F) (w₀ w₁ w₂ : W) (status one : ℕ) → InTurn step paths f₀ w₀ (Ok status) f₁ w₁ → step path f₁ w₁ (Ok one) f₂ w₂ → InTurn step (paths ++ path ∷ []) f₀ w₀ (Ok (max one status)) f₂ w₂
  turn_more [] path f₀ f₁ f₂ w₀ w₁ w₂ status one turn next =
      (f₂, w₂, one, 0, subst (λ f. step path f w₀ (Ok one) f₂ w₂) turn.1 (subst (λ w. step path f₁ w (Ok one) f₂ w₂) turn.2 next), (refl, refl, refl), ap (max one) turn.0)
  turn_more (first ∷ paths) path f₀ f₁ f₂ w₀ w₁ w₂ status one (f, w, n, m, done, turn, is) next =
      (f, w, n, max one m, done, turn_more paths path f f₁ f₂ w w₁ w₂ m one turn next, worst n m is)
    where
      worst : (n m : ℕ) → status ≡ max n m → max one status ≡ max n (max one m)
      worst n m is = omega (arith, is)

  -- a write failed at one more path, and others follow it
  pub turn_stopped : (paths more : List (List ℕ)) (path : List ℕ) (f₀ f₁ f₂ : F) (w₀ w₁ w₂ : W) (status : ℕ) (fault : Fault) → InTurn step paths f₀ w₀ (Ok status) f₁ w₁ → step path f₁ w₁ (Err fault) f₂ w₂ → InTurn step ((paths ++ path ∷ []) ++ more) f₀ w₀ (Err fault) f₂ w₂
  turn_stopped [] more path f₀ f₁ f₂ w₀ w₁ w₂ status fault turn next = inl (subst (λ f. step path f w₀ (Err fault) f₂ w₂) turn.1 (subst (λ w. step path f₁ w (Err fault) f₂ w₂) turn.2 next))
  turn_stopped (first ∷ paths) more path f₀ f₁ f₂ w₀ w₁ w₂ status fault (f, w, n, m, done, turn, is) next =
      inr (f, w, n, done, turn_stopped paths more path f f₁ f₂ w w₁ w₂ m fault turn next)

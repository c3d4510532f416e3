-- What is left out where two tests hold, and else written.
use Rattle.deb_version.proofs.Common.{◌≡◌, ◌&&◌, Bool, true, false, cond, ◌⊎◌, inl, inr, refl}

pub left_or_written : {A : Type 0} (p q : Bool) (left written : A) → ((p ≡ true) × (q ≡ true) × (cond (p && q) left written ≡ left)) ⊎ (cond (p && q) left written ≡ written)
left_or_written true true left written = inl (refl, refl, refl)
left_or_written true false left written = inr refl
left_or_written false q left written = inr refl

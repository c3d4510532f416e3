-- Texts that are appended one after the other.
use Rattle.std.proofs.Common.{◌≡◌, ℕ, ◌≤◌, ◌==◌, true, List, [], ◌∷◌, ◌++◌, map, length, drop, refl, sym, ap, ◌∙◌, append-nil, arith}
use Rattle.std.proofs.lemmas.Bool.{eqb-true}
use Rattle.std.proofs.Math.ListN.{drop_of_length-le}
use Rattle.deb_relation.specs.Texts.{separated}

pub nil_of : (text : List ℕ) → (length text == 0) ≡ true → text ≡ []
nil_of [] none = refl
nil_of (b ∷ text) none = absurd (omega (arith, eqb-true (length (b ∷ text)) 0 none))

-- what is in `out` before the texts from this index on, which are still to come
abbrev pub IsAppended : {A B : Type 0} → List ℕ → (B → List ℕ) → (A → B) → List A → List ℕ → List ℕ → ℕ → Type 0
IsAppended separator text view xs start out i = start ++ separated separator (map text (map view xs)) ≡ out ++ separated separator (map text (map view (drop i xs)))

module _ {A B : Type 0} (separator : List ℕ) (text : B → List ℕ) (view : A → B) (xs : List A) (start : List ℕ) where
  pub appended-end : (out : List ℕ) (i : ℕ) → length xs ≤ i → IsAppended separator text view xs start out i → out ≡ start ++ separated separator (map text (map view xs))
  appended-end out i le is = sym (is ∙ ap (λ ys. out ++ separated separator (map text (map view ys))) (drop_of_length-le xs le) ∙ append-nil out)

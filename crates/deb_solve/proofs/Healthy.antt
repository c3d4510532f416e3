-- Whether the set of a list is healthy.
use Rattle.std.proofs.Common.{◌≡◌, ◌↔◌, ℕ, ◌<◌, Bool, true, List, [], ◌∷◌, length, refl, sym, ap, ◌∙◌, inl, inr}
use Rattle.std.specs.List.{list_all}
use Rattle.std.proofs.lemmas.Bool.{and_from, and_parts, or_cases, or_left, or_right, eqb-true, eq-eqb, false≢true, ltb-true}
use Rattle.deb_solve.proofs.Marked.{alike}
use Rattle.deb_solve.specs.Health.{IsHealthy, fits, is_among}
use Rattle.deb_solve.specs.Marks.{AreMarks, marked}
use Rattle.deb_solve.specs.declared.universe.Universe.{Universe}

-- a test that each number of a list passes
all_among : (test : ℕ → Bool) (numbers : List ℕ) (p : ℕ) → list_all test numbers ≡ true → is_among numbers p ≡ true → test p ≡ true
all_among test [] p all among = absurd (false≢true among)
all_among test (n ∷ ns) p all among =
    let parts = and_parts _ _ all in
    elim (or_cases _ _ among) [
      | inl same ↦ ap test (sym (eqb-true n p same)) ∙ parts.0
      | inr later ↦ all_among test ns p parts.1 later
    ]

all_of_among : (test : ℕ → Bool) (numbers : List ℕ) → ((p : ℕ) → is_among numbers p ≡ true → test p ≡ true) → list_all test numbers ≡ true
all_of_among test [] each = refl
all_of_among test (n ∷ ns) each =
    and_from _ _ (each n (or_left _ _ (eq-eqb n n refl))) (all_of_among test ns (λ p among. each p (or_right _ _ among)))

healthy_alike : (u : Universe) (set : ℕ → Bool) (members : List ℕ) → ((p : ℕ) → set p ≡ is_among members p)
    → (list_all (fits u set) members ≡ true) ↔ IsHealthy u (is_among members)
healthy_alike u set members alike =
    let same : set ≡ is_among members = λ i p. alike p i in (
      λ all p among. ap (λ s. fits u s p) (sym same) ∙ all_among (fits u set) members p all among,
      λ healthy. all_of_among (fits u set) members (λ p among. ap (λ s. fits u s p) same ∙ healthy p among),
    )

fits_listed : (u : Universe) (set : ℕ → Bool) (p : ℕ) → fits u set p ≡ true → p < length u.needs
fits_listed u set p fit = ltb-true p (length u.needs) (and_parts _ _ fit).0

-- a member that isn't listed has no mark, and doesn't fit
pub healthy_list : (u : Universe) (marks : List Bool) (members : List ℕ) → AreMarks marks members (length u.needs)
    → (list_all (fits u (marked marks)) members ≡ true) ↔ IsHealthy u (is_among members)
healthy_list u marks members are = (
  λ all. (healthy_alike u (marked marks) members (alike marks members _ are (λ p among. fits_listed u (marked marks) p (all_among (fits u (marked marks)) members p all among)))).0 all,
  λ healthy. (healthy_alike u (marked marks) members (alike marks members _ are (λ p among. fits_listed u (is_among members) p (healthy p among)))).1 healthy,
)

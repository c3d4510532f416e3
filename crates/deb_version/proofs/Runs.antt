-- The longest run of bytes that pass a test, and that of those that pass a weaker one.
use Rattle.deb_version.proofs.Common.{◌≡◌, ◌≢◌, ℕ, suc, ◌+◌, Bool, true, false, List, [], ◌∷◌, ◌++◌, take, drop, refl, sym, ap, ◌∙◌, subst, arith, IsTrue, inl, inr, append_assoc, AllByRecursion, cases_Bool, prefix_len}
use Rattle.std.proofs.Math.Seq.{take-add}

-- each byte of the run passes
passes_within : (p : ℕ → Bool) (xs : List ℕ) → AllByRecursion (λ b. IsTrue (p b)) (take (prefix_len p xs) xs)
passes_within p [] = tt
passes_within p (x ∷ xs) = elim (cases_Bool (p x)) [
  | inl passes ↦
      let more : 1 + prefix_len p xs ≡ suc (prefix_len p xs) = omega arith in
      rw (passes, more) (passes, passes_within p xs)
  | inr fails ↦ rw fails tt
]

pub run_passes : (p : ℕ → Bool) (xs : List ℕ) (n : ℕ) → n ≡ prefix_len p xs → AllByRecursion (λ b. IsTrue (p b)) (take n xs)
run_passes p xs n run = subst (λ k. AllByRecursion (λ b. IsTrue (p b)) (take k xs)) (sym run) (passes_within p xs)

-- a text that is empty, or begins with a byte that fails
abbrev pub Stops : (ℕ → Bool) → List ℕ → Type 0
Stops p [] = Unit {0}
Stops p (x ∷ xs) = p x ≡ false

pub run_stops : (p : ℕ → Bool) (xs : List ℕ) → Stops p (drop (prefix_len p xs) xs)
run_stops p [] = tt
run_stops p (x ∷ xs) = elim (cases_Bool (p x)) [
  | inl passes ↦
      let more : 1 + prefix_len p xs ≡ suc (prefix_len p xs) = omega arith in
      rw (passes, more) (run_stops p xs)
  | inr fails ↦ rw fails fails
]

-- what begins with a byte that fails, its runs of other tests do too
pub stops_within : (p q : ℕ → Bool) (xs : List ℕ) → Stops p xs → Stops p (take (prefix_len q xs) xs)
stops_within p q [] stops = tt
stops_within p q (x ∷ xs) stops = elim (cases_Bool (q x)) [
  | inl passes ↦
      let more : 1 + prefix_len q xs ≡ suc (prefix_len q xs) = omega arith in
      rw (passes, more) stops
  | inr fails ↦ rw fails tt
]

module _ (p q : ℕ → Bool) (weaker : (b : ℕ) → IsTrue (p b) → IsTrue (q b)) where
  -- where the run ends, that of the weaker test goes on
  pub goes_on : (xs : List ℕ) → prefix_len q xs ≡ prefix_len p xs + prefix_len q (drop (prefix_len p xs) xs)
  goes_on [] = refl
  goes_on (x ∷ xs) = elim (cases_Bool (p x)) [
    | inl passes ↦
        let more : 1 + prefix_len p xs ≡ suc (prefix_len p xs) = omega arith in
        let behind = goes_on xs in
        rw (weaker x passes, passes, more) (omega (arith, behind))
    | inr fails ↦ rw fails (omega arith)
  ]

  -- one byte passes the weaker test alone
  module _ (byte : ℕ) (only : (b : ℕ) → p b ≡ false → b ≢ byte → q b ≡ false) where
    none_behind : (xs : List ℕ) → ((l : List ℕ) → drop (prefix_len p xs) xs ≢ byte ∷ l) → prefix_len q (drop (prefix_len p xs) xs) ≡ 0
    none_behind [] none = refl
    none_behind (x ∷ xs) none = elim (cases_Bool (p x)) [
      | inl passes ↦
          let same : drop (prefix_len p (x ∷ xs)) (x ∷ xs) ≡ drop (prefix_len p xs) xs =
          let more : 1 + prefix_len p xs ≡ suc (prefix_len p xs) = omega arith in rw (passes, more) refl in
          rw same (none_behind xs (λ l e. none l (same ∙ e)))
      | inr fails ↦
          let same : drop (prefix_len p (x ∷ xs)) (x ∷ xs) ≡ x ∷ xs = rw fails refl in
          rw (same, only x fails (λ e. none xs (same ∙ ap (λ b. b ∷ xs) e))) refl
    ]

    -- where it doesn't follow the run, both runs end
    pub run_ends : (xs : List ℕ) (n : ℕ) → n ≡ prefix_len p xs → ((l : List ℕ) → drop n xs ≢ byte ∷ l) → n ≡ prefix_len q xs
    run_ends xs n run none =
        let on = goes_on xs in
        let behind = none_behind xs (subst (λ k. (l : List ℕ) → drop k xs ≢ byte ∷ l) run none) in
        omega (arith, run, on, behind)

    -- where it does, the run goes on after it
    pub run_past : q byte ≡ true → (xs rest : List ℕ) (n m : ℕ) → n ≡ prefix_len p xs → drop n xs ≡ byte ∷ drop (n + 1) xs → rest ≡ drop (n + 1) xs → m ≡ prefix_len q rest
        → n + 1 + m ≡ prefix_len q xs
    run_past passes xs rest n m run here is run_behind =
        let on = goes_on xs in
        let at : prefix_len q (drop n xs) ≡ 1 + m = rw (here, passes) (omega (arith, run_behind, ap (prefix_len q) is)) in
        omega (arith, run, on, at, ap (λ k. prefix_len q (drop k xs)) run)

-- so much of a text, a byte after it, and so much after that byte
pub take_past : (xs rest : List ℕ) (n m byte : ℕ) → drop n xs ≡ byte ∷ drop (n + 1) xs → rest ≡ drop (n + 1) xs → take (n + 1 + m) xs ≡ take n xs ++ byte ∷ take m rest
take_past xs rest n m byte here is =
    take-add (n + 1) m xs ∙ ap (λ l. l ++ take m (drop (n + 1) xs)) (take-add n 1 xs) ∙ append_assoc (take n xs) (take 1 (drop n xs)) (take m (drop (n + 1) xs))
    ∙ ap (λ l. take n xs ++ (take 1 l ++ take m (drop (n + 1) xs))) here ∙ ap (λ l. take n xs ++ byte ∷ take m l) (sym is)

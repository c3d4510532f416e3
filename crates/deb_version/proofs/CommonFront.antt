-- What two components begin with alike, up to a byte that is no digit, doesn't decide.
use Rattle.deb_version.proofs.Common.{◌≡◌, ◌≢◌, ℕ, zero, suc, ◌-◌, ◌≤◌, List, [], ◌∷◌, ◌++◌, length, take, drop, get_or, refl, sym, ap, ◌∙◌, inl, inr, append_assoc, cond, IsTrue, IsFalse, false, arith, cases_Bool, get_or-take, take-append-drop, is_ascii_digit, nat_cmp_total, tied_itself, nat_cmp, ordering_then, component_cmp, rank_of, text_cmp, component_total, part_total, AreCuts, Cut, IsDigits, cuts_of, parts_of, parts_of_cuts, value_of, with_byte, with_digit, AreCuts-cuts_of}
use Rattle.std.proofs.Common.{Equal}
use Rattle.std.proofs.Math.Seq.{take-suc, take-take}
use Rattle.deb_version.proofs.FirstCut.{cuts_of-run}
use Rattle.deb_version.proofs.Walks.{component_cmp-step}

-- a component compares with itself as equal
pub component_itself : (a b : List ℕ) → a ≡ b → component_cmp (parts_of a) (parts_of b) ≡ Equal
component_itself a b same = ap (λ l. component_cmp (parts_of a) (parts_of l)) (sym same) ∙ tied_itself component_total (parts_of a)

-- a byte that is no digit, before both
other_in_front : (b : ℕ) (x y : List ℕ) → is_ascii_digit b ≡ false → component_cmp (parts_of (b ∷ x)) (parts_of (b ∷ y)) ≡ component_cmp (parts_of x) (parts_of y)
other_in_front b x y other = shapes (cuts_of x) (cuts_of y) (AreCuts-cuts_of x) (AreCuts-cuts_of y)
  where
    shapes : (cs ds : List Cut) → AreCuts cs → AreCuts ds
        → component_cmp (parts_of_cuts (with_byte b cs)) (parts_of_cuts (with_byte b ds)) ≡ component_cmp (parts_of_cuts cs) (parts_of_cuts ds)
    shapes [] ds are are' = absurd are
    shapes (c ∷ cs) [] are are' = absurd are'
    shapes (c ∷ cs) (d ∷ ds) are are' =
        ap (λ v. component_cmp (parts_of_cuts (cond v (with_digit b c.0 c.1 cs) ((b ∷ c.0, c.1) ∷ cs)))
        (parts_of_cuts (cond v (with_digit b d.0 d.1 ds) ((b ∷ d.0, d.1) ∷ ds)))) other
        ∙ ap (λ o. ordering_then (ordering_then (ordering_then o (text_cmp c.0 d.0)) (nat_cmp (value_of c.1) (value_of d.1)))
        (component_cmp (parts_of_cuts cs) (parts_of_cuts ds))) (tied_itself nat_cmp_total (rank_of b))

-- a run of digits, and the byte after it that is none
run_in_front : (run x y : List ℕ) (b : ℕ) → IsDigits run → is_ascii_digit b ≡ false
    → component_cmp (parts_of (run ++ b ∷ x)) (parts_of (run ++ b ∷ y)) ≡ component_cmp (parts_of x) (parts_of y)
run_in_front [] x y b digits other = other_in_front b x y other
run_in_front (d ∷ run) x y b digits other =
    component_cmp-step ((d ∷ run) ++ b ∷ x) ((d ∷ run) ++ b ∷ y) (b ∷ x) (b ∷ y) ([], d ∷ run) ([], d ∷ run)
    (cuts_of-run (d ∷ run) (b ∷ x) digits other (λ e. cc e)) (cuts_of-run (d ∷ run) (b ∷ y) digits other (λ e. cc e))
    ∙ ap (λ o. ordering_then o (component_cmp (parts_of (b ∷ x)) (parts_of (b ∷ y)))) (tied_itself part_total ([], value_of (d ∷ run)))
    ∙ other_in_front b x y other

digits-push : (run : List ℕ) (d : ℕ) → IsDigits run → IsTrue (is_ascii_digit d) → IsDigits (run ++ d ∷ [])
digits-push [] d digits digit = (digit, tt)
digits-push (c ∷ run) d digits digit = (digits.0, digits-push run d digits.1 digit)

-- a run of digits, bytes, and one that is no digit
behind_other : (run front x y : List ℕ) (c : ℕ) → IsDigits run → is_ascii_digit c ≡ false
    → component_cmp (parts_of (run ++ (front ++ c ∷ x))) (parts_of (run ++ (front ++ c ∷ y))) ≡ component_cmp (parts_of x) (parts_of y)
behind_other run [] x y c digits other = run_in_front run x y c digits other
behind_other run (b ∷ front) x y c digits other = elim (cases_Bool (is_ascii_digit b)) [
  | inl digit ↦
      let joins : (z : List ℕ) → run ++ (b ∷ (front ++ c ∷ z)) ≡ (run ++ b ∷ []) ++ (front ++ c ∷ z) = λ z. sym (append_assoc run (b ∷ []) (front ++ c ∷ z)) in
      (λ i. component_cmp (parts_of (joins x i)) (parts_of (joins y i))) ∙ behind_other (run ++ b ∷ []) front x y c (digits-push run b digits digit) other
  | inr ends ↦ run_in_front run (front ++ c ∷ x) (front ++ c ∷ y) b digits ends ∙ behind_other [] front x y c tt other
]

-- Two components with a common prefix compare as what follows it, if it is empty or ends in a byte that is no digit.
pub front_passes : (a b : List ℕ) (same front : ℕ) → same ≤ length a → front ≤ same → take same a ≡ take same b
    → ((front ≢ 0) → IsFalse (is_ascii_digit (get_or (take same a) (front - 1) 0)))
    → component_cmp (parts_of a) (parts_of b) ≡ component_cmp (parts_of (drop front a)) (parts_of (drop front b))
front_passes a b same zero long within alike other = refl
front_passes a b same (suc n) long within alike other =
    let byte = get_or (take same a) n 0 in
    let shown : byte ≡ get_or a n 0 = get_or-take same a n 0 (omega arith) in
    let no_digit : is_ascii_digit byte ≡ false = other_at (other (λ e. cc e)) in
    let front_a : take (suc n) a ≡ take n a ++ byte ∷ [] = take-suc a n 0 (omega arith) ∙ ap (λ x. take n a ++ x ∷ []) (sym shown) in
    let front_b : take (suc n) b ≡ take (suc n) a = sym (take-take (suc n) same b within) ∙ ap (take (suc n)) (sym alike) ∙ take-take (suc n) same a within in
    let is_a : a ≡ take n a ++ byte ∷ drop (suc n) a = joined a front_a in
    let is_b : b ≡ take n a ++ byte ∷ drop (suc n) b = joined b (front_b ∙ front_a) in
    (λ i. component_cmp (parts_of (is_a i)) (parts_of (is_b i))) ∙ behind_other [] (take n a) (drop (suc n) a) (drop (suc n) b) byte tt no_digit
  where
    other_at : IsFalse (is_ascii_digit (get_or (take same a) (suc n - 1) 0)) → is_ascii_digit (get_or (take same a) n 0) ≡ false
    other_at e = let m : suc n - 1 ≡ n = omega arith in ap (λ k. is_ascii_digit (get_or (take same a) k 0)) (sym m) ∙ e

    joined : (xs : List ℕ) → take (suc n) xs ≡ take n a ++ get_or (take same a) n 0 ∷ [] → xs ≡ take n a ++ get_or (take same a) n 0 ∷ drop (suc n) xs
    joined xs e = sym (take-append-drop (suc n) xs) ∙ ap (λ l. l ++ drop (suc n) xs) e ∙ append_assoc (take n a) (get_or (take same a) n 0 ∷ []) (drop (suc n) xs)

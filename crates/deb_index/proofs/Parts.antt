-- Parts of lists: what more at the end leaves as it is, and parts of parts.
use Rattle.std.proofs.Common.{◌≡◌, ℕ, ◌-◌, ◌+◌, ◌≤◌, List, ◌++◌, length, take, drop, sym, ap, ◌∙◌, arith, inl, inr}
use Rattle.std.proofs.lemmas.Bool.{cases_lt}
use Rattle.std.proofs.lemmas.List.{drop-append-le, drop-drop, drop-take, length-append, length-drop, take-append-le, take-take, take_all}
use Rattle.std.proofs.Math.Seq.{drop-append_seam}
use Rattle.deb_index.specs.Spans.{part}

module _ {A : Type 0} where
  -- a part that doesn't go beyond the end
  pub part-append : (s e : ℕ) (xs ys : List A) → e ≤ length xs → part s e (xs ++ ys) ≡ part s e xs
  part-append s e xs ys within =
      elim (cases_lt (length xs) s) [
        | inl beyond ↦
            let zero : e - s ≡ 0 = omega (arith, beyond, within) in
            ap (λ n. take n (drop s (xs ++ ys))) zero ∙ ap (λ n. take n (drop s xs)) (sym zero)
        | inr low ↦
            ap (take (e - s)) (drop-append-le s xs ys low)
            ∙ take-append-le (e - s) (drop s xs) ys (omega (arith, length-drop s xs, within))
      ]

  -- what was appended
  pub part-behind : (xs ys : List A) → part (length xs) (length (xs ++ ys)) (xs ++ ys) ≡ ys
  part-behind xs ys = ap (take (length (xs ++ ys) - length xs)) (drop-append_seam xs ys) ∙ take_all (length (xs ++ ys) - length xs) ys (omega (arith, length-append xs ys))

  -- a part of a part
  pub part-part : (s e i j : ℕ) (xs : List A) → i ≤ j → s + j ≤ e → part i j (part s e xs) ≡ part (s + i) (s + j) xs
  part-part s e i j xs order within =
      let rest = e - s - i in
      let all : e - s ≡ i + rest = omega (arith, order, within) in
      let long : j - i ≡ s + j - (s + i) = omega arith in
      ap (λ n. take (j - i) (drop i (take n (drop s xs)))) all
      ∙ ap (take (j - i)) (drop-take i rest (drop s xs))
      ∙ take-take (j - i) rest (drop i (drop s xs)) (omega (arith, order, within))
      ∙ ap (take (j - i)) (drop-drop i s xs)
      ∙ ap (λ n. take n (drop (s + i) xs)) long

-- The rows that the first four bytes of a text select.
use Rattle.std.proofs.Common.{[], ◌∷◌, ◌≡◌, ℕ, zero, suc, ◌+◌, ◌*◌, ◌/◌, ◌%◌, ◌^◌, ◌<◌, ◌≤◌, ◌++◌, Bool, true, List, length, take, get_or, nat_le, codes, refl, sym, ap, subst, ◌∙◌, arith}
use Rattle.std.specs.Int.{byte_worth, sum_through}
use Rattle.std.specs.List.{list_all, range_with_len}
use Rattle.std.proofs.lemmas.Bool.{leb-true}
use Rattle.std.proofs.lemmas.List.{get_or-take, length-append, length-take}
use Rattle.std.proofs.lemmas.List.FromFn.{get_or-range_with_len}
use Rattle.std.proofs.lemmas.List.Sums.{AllPass-from_list_all}
use Rattle.std.proofs.lemmas.Slice.Eq.{bytes_eq-Decides}
use Rattle.deb_base.specs.Kinds.{FieldRow, known_fields, row_count}
use Rattle.deb_base.specs.KnownFields.{begins_with_row, front_number, is_likely_table, likely_for}
use Rattle.deb_base.specs.declared.kind.Kind.TheVariants.{Text}

same_sums : (f g : ℕ → ℕ) (n : ℕ) → ((k : ℕ) → k ≤ n → f k ≡ g k) → sum_through f n ≡ sum_through g n
same_sums f g zero same = same 0 (omega arith)
same_sums f g (suc n) same =
    ap (λ sum. sum + f (suc n)) (same_sums f g n (λ k le. same k (omega (arith, le))))
    ∙ ap (λ last. sum_through g n + last) (same (suc n) (omega arith))

-- the number goes by the first four bytes
front_number-same : (a b : List ℕ) → ((k : ℕ) → k < 4 → get_or a k 0 ≡ get_or b k 0) → front_number a ≡ front_number b
front_number-same a b same =
    ap (λ number. number * 4947 % 2 ^ 32 / 2 ^ 25)
    (same_sums (λ i. byte_worth i (get_or a i 0)) (λ i. byte_worth i (get_or b i 0)) 3 (λ k le. ap (byte_worth k) (same k (omega (arith, le)))))

all_long : list_all (λ row. nat_le 3 (length row.0)) known_fields ≡ true
all_long = refl

module _ (line : List ℕ) (row : ℕ) (within : row < row_count) (starts : begins_with_row line (get_or known_fields row ([], Text)) ≡ true) where
  abbrev of : FieldRow
  of = get_or known_fields row ([], Text)

  begun : take (length of.0 + 1) line ≡ of.0 ++ 58 ∷ []
  begun = (bytes_eq-Decides _ _).0 starts

  long : 3 ≤ length of.0
  long = leb-true 3 (length of.0) (AllPass-from_list_all (λ row. nat_le 3 (length row.0)) known_fields all_long row ([], Text) within)

  pub four_bytes : 4 ≤ length line
  four_bytes = omega (arith, long, sym (length-take (length of.0 + 1) line) ∙ ap length begun ∙ length-append of.0 (58 ∷ []))

  same_front : front_number line ≡ front_number (of.0 ++ codes ":")
  same_front =
      front_number-same line (of.0 ++ codes ":")
      (λ k small. sym (get_or-take (length of.0 + 1) line k 0 (omega (arith, small, long))) ∙ ap (λ bytes. get_or bytes k 0) begun)

  -- the test of a table holds of the row
  pub likely : (test : ℕ → ℕ → Bool) (table : List ℕ) → is_likely_table test table ≡ true → test row (get_or table (front_number line) 0) ≡ true
  likely test table is =
      let count : get_or (range_with_len 0 row_count) row 0 ≡ row = get_or-range_with_len 0 row_count row 0 within ∙ omega arith in
      let here : test row (likely_for table row) ≡ true = subst (λ n. test n (likely_for table n) ≡ true) count (AllPass-from_list_all (λ n. test n (likely_for table n)) (range_with_len 0 row_count) is row 0 within) in
      subst (λ n. test row (get_or table n 0) ≡ true) (sym same_front) here

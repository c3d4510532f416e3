-- How many bytes of a load come before its first newline, from the mask of its newlines.
use Rattle.std.proofs.Common.{◌≡◌, ℕ, ◌+◌, ◌-◌, ◌%◌, ◌^◌, ◌<◌, ◌≤◌, ◌==◌, false, not, cond, if◌then◌else◌, List, Some, None, map, length, slice_index, slice_range, replicate, w8, w64, inl, inr, sym, ap, subst, ◌∙◌, arith}
use Rattle.memchr.specs.Find.{IsFirstByte, Nowhere, Passes, is_byte}
use Rattle.std.proofs.lemmas.Bool.{cases_lt, true≢false}
use Rattle.std.proofs.lemmas.List.{get_or-drop, length-drop, take_rest}
use Rattle.std.specs.Int.{trailing_zeros}
use Rattle.std.specs.List.{prefix_len}
use Rattle.std.proofs.lemmas.Simd.{bitmask_splat, first_set_mask_l, length-chunk}
use Rattle.deb_base.specs.Bodies.{newline}
use lib.Lanes.{chunk, zip2, mask_l, top}

pub counted : (text : List ℕ) (at r : ℕ) → at + 32 ≤ length text
    → r ≡ (let marks = mask_l (map (top 7) (zip2 (λ a b. cond (a == b) 255 0) (chunk at 32 text) (replicate 32 10))) % 2 ^ 64 in if marks == 0 then 32 else trailing_zeros w64 marks)
    → r ≡ prefix_len (λ b. not (b == 10)) (chunk at 32 text)
counted text at r room found =
    let v = chunk at 32 text in
    let long : length v ≡ 32 = length-chunk at 32 text room in
    found
    ∙ ap (λ marks. if marks == 0 then 32 else trailing_zeros w64 marks) (bitmask_splat w8 (λ a b. a == b) v 32 10 long (omega arith))
    ∙ first_set_mask_l (λ b. b == 10) v 32 long (omega arith)

-- the first newline after the bytes up to an offset, which hold none
module _ (text : List ℕ) (at : ℕ) (within : at ≤ length text) (none : (k : ℕ) → k < at → (slice_index text k == newline) ≡ false) where
  same : (k : ℕ) → slice_index (slice_range text at (length text)) k ≡ slice_index text (at + k)
  same k = ap (λ xs. slice_index xs k) (take_rest text at) ∙ get_or-drop at text k 0

  size : length (slice_range text at (length text)) ≡ length text - at
  size = ap length (take_rest text at) ∙ length-drop at text

  none_after : (j : ℕ) → Nowhere (Passes (is_byte newline) (slice_range text at (length text))) 0 j → Nowhere (Passes (is_byte newline) text) 0 (at + j)
  none_after j before k low high is =
      elim (cases_lt k at) [
        | inl less ↦ true≢false (sym is ∙ none k less)
        | inr least ↦
            let back : at + (k - at) ≡ k = omega arith in
            before (k - at) (omega arith) (omega (arith, high, back)) (ap (is_byte newline) (same (k - at) ∙ ap (λ i. slice_index text i) back) ∙ is)
      ]

  pub first_after : (r : ℕ) → IsFirstByte (is_byte newline) (slice_range text at (length text)) (Some r) → IsFirstByte (is_byte newline) text (Some (at + r))
  first_after r is = (
    record { low = omega arith; high = omega (arith, is.0.high, size, within); before = none_after r is.0.before },
    ap (is_byte newline) (sym (same r)) ∙ is.1,
  )

  pub none_up_to : IsFirstByte (is_byte newline) (slice_range text at (length text)) None → IsFirstByte (is_byte newline) text None
  none_up_to is =
      let whole : at + length (slice_range text at (length text)) ≡ length text = omega (arith, size, within) in
      subst (λ n. Nowhere (Passes (is_byte newline) text) 0 n) whole (none_after _ is)

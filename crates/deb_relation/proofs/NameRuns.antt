-- The run of bytes of a package's name, from the mask of the lanes that aren't among them.
use Rattle.std.proofs.Common.{◌≡◌, ℕ, ◌+◌, ◌%◌, ◌^◌, ◌<◌, ◌≤◌, Bool, true, not, List, [], ◌∷◌, ◌++◌, map, length, take, drop, get_or, Fits, w8, refl, sym, ap, ◌∙◌, arith}
use Rattle.std.specs.List.{AllByRecursion, prefix_len}
use Rattle.std.proofs.lemmas.Bool.{agree_below, agree_below_at, cond-false, cond-true, eq-eqb, ne_eqb}
use Rattle.std.proofs.lemmas.List.{length-take-le, take-append-drop}
use Rattle.std.proofs.lemmas.List.Folds.{prefix_len-append}
use Rattle.std.proofs.lemmas.Simd.{Each1-weaker, chunk-fits, first_set_mask_l, length-chunk, map-map, mask_l-mod}
use Rattle.std.proofs.lemmas.List.{length-map}
use lib.Lanes.{chunk, mask_l, top}
use Rattle.deb_relation.specs.Lanes.{first_set}

-- tests that agree on each byte of a text
run_same : (p q : ℕ → Bool) (text : List ℕ) → AllByRecursion (λ b. p b ≡ q b) text → prefix_len p text ≡ prefix_len q text
run_same p q [] all = refl
run_same p q (b ∷ bs) all = rw (all.0, run_same p q bs all.1) refl

-- a lane stops just where the test fails
pub lanes_run : (q : ℕ → Bool) (text z : List ℕ) (r : ℕ) → 16 ≤ length text → ((k : ℕ) → Fits w8 (get_or text k 0)) → r ≡ first_set (mask_l (map (top 7) z) % 2 ^ 64)
    → (f : ℕ → ℕ) → z ≡ map f (chunk 0 16 text) → agree_below (λ b. not (top 7 (f b))) q 256 ≡ true → r ≡ prefix_len q (take 16 text)
lanes_run q text z r room fits found f lanes agree =
    let v = chunk 0 16 text in
    let stops : ℕ → Bool = λ b. top 7 (f b) in
    let long : length v ≡ 16 = length-chunk 0 16 text room in
    let mask : mask_l (map (top 7) z) % 2 ^ 64 ≡ mask_l (map stops v) =
    ap (λ l. mask_l l % 2 ^ 64) (ap (map (top 7)) lanes ∙ map-map (top 7) f v) ∙ mask_l-mod (map stops v) 64 (omega (arith, length-map v stops, long)) in
    found ∙ ap first_set mask ∙ first_set_mask_l stops v 16 long (omega arith)
    ∙ run_same (λ b. not (stops b)) q v (Each1-weaker (Fits w8) (λ b. not (stops b) ≡ q b) (λ b fit. agree_below_at (λ b. not (stops b)) q 256 b agree fit.fits) v (chunk-fits w8 0 16 text fits))

module _ (q : ℕ → Bool) (n : ℕ) (text : List ℕ) (room : n ≤ length text) where
  parts : prefix_len q text ≡ prefix_len q (take n text ++ drop n text)
  parts = ap (prefix_len q) (sym (take-append-drop n text))

  -- the run ends in the first n bytes, or goes on after them
  pub run_ends : prefix_len q (take n text) < n → prefix_len q text ≡ prefix_len q (take n text)
  run_ends short = parts ∙ prefix_len-append q (take n text) (drop n text) ∙ cond-false _ _ _ (ne_eqb (prefix_len q (take n text)) (length (take n text)) (λ same. absurd (omega (arith, short, same, length-take-le n text room))))

  pub run_on : prefix_len q (take n text) ≡ n → prefix_len q text ≡ n + prefix_len q (drop n text)
  run_on whole =
      parts ∙ prefix_len-append q (take n text) (drop n text) ∙ cond-true _ _ _ (eq-eqb _ _ (whole ∙ sym (length-take-le n text room)))
      ∙ ap (λ m. m + prefix_len q (drop n text)) (length-take-le n text room)

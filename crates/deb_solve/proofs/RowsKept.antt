-- Rows in two flat lists: how many there are, where one is, and one more.
use Rattle.std.proofs.Common.{◌≡◌, ℕ, ◌+◌, ◌-◌, ◌<◌, ◌≤◌, suc, zero, List, [], ◌∷◌, ◌++◌, length, take, drop, get_or, Some, slice_get, refl, sym, ap, ap₂, ◌∙◌, arith}
use Rattle.std.proofs.lemmas.List.{take-append-le, drop-append-le, length-drop, append-nil}
use Rattle.std.proofs.Math.Seq.{drop-append_seam, take-append_seam}
use Rattle.deb_solve.specs.Layout.{AreEnds, rows_from}

pub length-rows_from : (start : ℕ) (numbers ends : List ℕ) → length (rows_from start numbers ends) ≡ length ends
length-rows_from start numbers [] = refl
length-rows_from start numbers (end ∷ ends) = ap suc (length-rows_from end numbers ends)

pub starts_within : (start total : ℕ) (ends : List ℕ) → AreEnds start total ends → start ≤ total
starts_within start total [] are = omega (arith, are)
starts_within start total (end ∷ ends) are =
    let later = starts_within end total ends are.1 in omega (arith, are.0, later)

-- The row with this number is the part of the numbers between two ends.
pub record IsRowAt (start : ℕ) (numbers ends : List ℕ) (n : ℕ) : Type 0 where
  pub ordered : get_or (start ∷ ends) n 0 ≤ get_or ends n 0
  pub within : get_or ends n 0 ≤ length numbers
  pub found : slice_get (rows_from start numbers ends) n
      ≡ Some (take (get_or ends n 0 - get_or (start ∷ ends) n 0) (drop (get_or (start ∷ ends) n 0) numbers))

pub row_at : (start : ℕ) (numbers ends : List ℕ) (n : ℕ) → n < length ends → AreEnds start (length numbers) ends → IsRowAt start numbers ends n
row_at start numbers [] n within are = absurd (omega (arith, within))
row_at start numbers (end ∷ ends) zero within are =
    record { ordered = are.0; within = starts_within end (length numbers) ends are.1; found = refl }
row_at start numbers (end ∷ ends) (suc n) within are =
    let later = row_at end numbers ends n (omega (arith, within)) are.1 in
    record { ordered = later.ordered; within = later.within; found = later.found }

-- ---- one more row

pub ends_more : (start total more : ℕ) (ends : List ℕ) → AreEnds start total ends → AreEnds start (total + more) (ends ++ (total + more) ∷ [])
ends_more start total more [] are = (omega (arith, are), refl)
ends_more start total more (end ∷ ends) are = (are.0, ends_more end total more ends are.1)

last_row : (start : ℕ) (numbers row : List ℕ) → start ≡ length numbers → take ((length numbers + length row) - start) (drop start (numbers ++ row)) ≡ row
last_row start numbers row at =
    let size : (length numbers + length row) - start ≡ length row = omega (arith, at) in
    let part : drop start (numbers ++ row) ≡ row = ap (λ n. drop n (numbers ++ row)) at ∙ drop-append_seam numbers row in
    ap₂ take size part ∙ ap (take (length row)) (sym (append-nil row)) ∙ take-append_seam row []

earlier_row : (start end : ℕ) (numbers row : List ℕ) → start ≤ end → end ≤ length numbers → take (end - start) (drop start (numbers ++ row)) ≡ take (end - start) (drop start numbers)
earlier_row start end numbers row ordered within =
    let size : end - start ≤ length (drop start numbers) = rw (length-drop start numbers) (omega arith) in
    ap (take (end - start)) (drop-append-le start numbers row (omega (arith, ordered, within)))
    ∙ take-append-le (end - start) (drop start numbers) row size

pub rows_more : (start : ℕ) (numbers ends row : List ℕ) → AreEnds start (length numbers) ends
    → rows_from start (numbers ++ row) (ends ++ (length numbers + length row) ∷ []) ≡ rows_from start numbers ends ++ row ∷ []
rows_more start numbers [] row are = ap (λ r. r ∷ []) (last_row start numbers row are)
rows_more start numbers (end ∷ ends) row are =
    ap₂ (λ r rs. r ∷ rs) (earlier_row start end numbers row are.0 (starts_within end (length numbers) ends are.1))
    (rows_more end numbers ends row are.1)

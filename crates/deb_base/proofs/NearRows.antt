-- Names of the table that are compared with a text 32 bytes at a time.
use Rattle.std.proofs.Common.{[], ◌∷◌, ◌≡◌, ℕ, ◌+◌, ◌-◌, ◌%◌, ◌^◌, ◌<◌, ◌≤◌, ◌==◌, Bool, true, not, cond, if◌then◌else◌, List, length, map, take, get_or, replicate, w8, w64, refl, sym, ap, ◌∙◌, arith}
use Rattle.std.specs.Int.{trailing_zeros}
use Rattle.std.specs.List.{prefix_len}
use Rattle.std.proofs.Math.Seq.{get_or-append_seam}
use Rattle.std.proofs.lemmas.Bool.{eqb-true, not-false, not-true}
use Rattle.std.proofs.lemmas.Grind.{get_or_default_zero}
use Rattle.std.proofs.lemmas.List.{get_or_append_left, get_or-take, length-take-le, same_lists}
use Rattle.std.proofs.lemmas.List.Sums.{prefix_len-le-length, prefix_len_passes}
use Rattle.std.proofs.lemmas.Simd.{first_set_mask_l, get_or-chunk, get_or-zip2, length-chunk, length-zip2, mask_l-mod, tops_compared}
use lib.Lanes.{chunk, zip2, mask_l, top}
use Rattle.deb_base.specs.Kinds.{FieldRow, known_fields}
use Rattle.deb_base.specs.KnownFields.{filled, row_for, row_in, IsAtFront}
use Rattle.deb_base.specs.declared.kind.Kind.TheVariants.{Text}
use Rattle.deb_base.specs.declared.known_fields.Row.{Row}
use Rattle.deb_base.proofs.BegunRows.{IsBegun, at_front-begun}
use Rattle.deb_base.proofs.FieldLookups.{filled_of_table, inside, length_of_canonical}

abbrev differ : ℕ → ℕ → Bool
differ a b = not (a == b)

module _ (text other : List ℕ) (r : ℕ) (room : 32 ≤ length text) (long : length other ≡ 32)
    (found : r ≡ (let mask = mask_l (map (top 7) (zip2 (λ a b. cond (not (a == b)) 255 0) (chunk 0 32 text) other)) % 2 ^ 64 in if mask == 0 then 32 else trailing_zeros w64 mask)) where
  abbrev front : List ℕ
  front = chunk 0 32 text

  front_long : length front ≡ 32
  front_long = length-chunk 0 32 text room

  abbrev pairs : List Bool
  pairs = zip2 differ front other

  pairs_long : length pairs ≡ 32
  pairs_long = length-zip2 differ front other (front_long ∙ sym long) ∙ front_long

  itself : (bits : List Bool) → map (λ b. b) bits ≡ bits
  itself [] = refl
  itself (b ∷ bits) = ap (λ more. b ∷ more) (itself bits)

  counted : r ≡ prefix_len not pairs
  counted =
      found
      ∙ ap (λ mask. if mask == 0 then 32 else trailing_zeros w64 mask)
      (ap (λ bits. mask_l bits % 2 ^ 64) (tops_compared w8 differ front other) ∙ mask_l-mod pairs 64 (omega (arith, pairs_long)) ∙ ap mask_l (sym (itself pairs)))
      ∙ first_set_mask_l (λ b. b) pairs 32 pairs_long (omega arith)

  pub same_most : r ≤ 32
  same_most = omega (arith, counted, pairs_long, prefix_len-le-length not pairs)

  pub same_before : (k : ℕ) → k < r → get_or text k 0 ≡ get_or other k 0
  same_before k less =
      let small : k < 32 = omega (arith, less, same_most) in
      let passes = prefix_len_passes not pairs k true (omega (arith, less, counted)) in
      let pair = get_or-zip2 differ front other k 0 0 true (omega (arith, small, front_long)) (omega (arith, small, long)) in
      let equal : get_or front k 0 ≡ get_or other k 0 = eqb-true _ _ (not-false _ (sym pair ∙ not-true _ passes)) in
      let count : 0 + k ≡ k = omega arith in
      ap (λ i. get_or text i 0) (sym count) ∙ sym (get_or-chunk 0 32 text k 0 small) ∙ equal

module _ (text bytes : List ℕ) (r : ℕ) (of : FieldRow) (room : 32 ≤ length text) (most : r ≤ 32) (less : length of.0 < r) (is : bytes ≡ filled of)
    (same : (k : ℕ) → k < r → get_or text k 0 ≡ get_or bytes k 0) where
  begins_with : IsBegun text of.0
  begins_with = record {
    within = omega (arith, less, most, room);
    colon = same (length of.0) less ∙ ap (λ xs. get_or xs (length of.0) 0) is ∙ get_or-append_seam of.0 58 (replicate (31 - length of.0) 45) 0;
    same = same_lists (take (length of.0) text) of.0 (length-take-le (length of.0) text (omega (arith, less, most, room)))
        (λ k d small.
        let size = length-take-le (length of.0) text (omega (arith, less, most, room)) in
        let low : k < length of.0 = omega (arith, small, size) in
        get_or-take (length of.0) text k d low ∙ get_or_default_zero text k d (omega (arith, low, less, most, room))
        ∙ same k (omega (arith, low, less)) ∙ ap (λ xs. get_or xs k 0) is
        ∙ get_or_append_left of.0 (58 ∷ replicate (31 - length of.0) 45) 0 k low ∙ sym (get_or_default_zero of.0 k d low));
  }

-- more bytes of the code's row than its name has are those of the text
pub near_row : (table : List Row) (is : map row_in table ≡ map row_for known_fields) (i : ℕ) (d : Row) → i < length table → (text : List ℕ) (r row : ℕ) → i ≡ row → 32 ≤ length text → r ≤ 32 → length (get_or table i d).canonical.now < r
    → ((k : ℕ) → k < r → get_or text k 0 ≡ get_or (get_or table i d).filled k 0) → IsAtFront text (record { id = record { 0 = row }; len = length (get_or table i d).canonical.now })
near_row table is i d within text r row is_row room most less same =
    let e : FieldRow = ([], Text) in
    let size = length_of_canonical table is i d within e in
    at_front-begun text row i (length (get_or table i d).canonical.now) e is_row (inside table is i d within e) size
    (begins_with text (get_or table i d).filled r (get_or known_fields i e) room most (omega (arith, size, less)) (filled_of_table table is i d within e) same)

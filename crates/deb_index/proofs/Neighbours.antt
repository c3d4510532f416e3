-- In a list whose names ascend, the elements of a name are neighbours.
use Rattle.std.proofs.Common.{◌≡◌, ℕ, zero, suc, ◌+◌, ◌<◌, ◌≤◌, Bool, true, false, cond, List, [], ◌∷◌, length, map, get_or, take, drop, length-drop, ◌-◌, ◌⊎◌, inl, inr, refl, sym, ap, ◌∙◌, subst, arith}
use Rattle.std.specs.List.{AllPairs, filter}
use Rattle.std.specs.List.Sorted.{IsPartitionedBy, IsPartitionPoint}
use Rattle.std.specs.Ordering.{is_eq, is_lt, is_le, is_gt}
use Rattle.std.specs.Cmp.{upto, tied_itself}
use Rattle.std.specs.Str.{bytes_eq}
use Rattle.std.specs.declared.cmp.Ordering.{Ordering}
use Rattle.std.specs.declared.cmp.Ordering.TheVariants.{Less, Equal, Greater}
use Rattle.std.proofs.lemmas.Bool.{false≢true}
use Rattle.std.proofs.lemmas.Cmp.{nat_list_cmp_total}
use Rattle.std.proofs.lemmas.List.{get_or-map, get_or-drop, length-map}
use Rattle.std.proofs.Math.Seq.{take-length}
use Rattle.std.proofs.lemmas.Map.Text.{is_eq-slice_cmp}
use Rattle.deb_relation.specs.Sets.{byte_cmp}
use Rattle.deb_index.specs.ProvidedNames.{IsNotAfter}

-- where a test passes up to a place, and what passes it fails another, that one finds nothing before the place
module _ {X : Type 0} (p q : X → Bool) where
  pub filter-from : ((x : X) → p x ≡ true → q x ≡ false) → (xs : List X) (i : ℕ) → ((k : ℕ) (d : X) → k < i → p (get_or xs k d) ≡ true) → filter q xs ≡ filter q (drop i xs)
  filter-from fails xs zero within = refl
  filter-from fails [] (suc i) within = refl
  filter-from fails (x ∷ xs) (suc i) within =
      ap (λ b. cond b (x ∷ filter q xs) (filter q xs)) (fails x (within 0 x (omega arith)))
      ∙ filter-from fails xs i (λ k d low. within (suc k) d (omega (arith, low)))

filter-none : {X : Type 0} (q : X → Bool) (xs : List X) → ((k : ℕ) (d : X) → k < length xs → q (get_or xs k d) ≡ false) → filter q xs ≡ []
filter-none q [] none = refl
filter-none q (x ∷ xs) none =
    ap (λ b. cond b (x ∷ filter q xs) (filter q xs)) (none 0 x (omega arith))
    ∙ filter-none q xs (λ k d low. none (suc k) d (omega (arith, low)))

-- where a test passes up to a place and fails from there on, it finds what comes before the place
pub filter-upto : {X : Type 0} (q : X → Bool) (xs : List X) (i : ℕ) → ((k : ℕ) (d : X) → k < i → k < length xs → q (get_or xs k d) ≡ true) → ((k : ℕ) (d : X) → i ≤ k → k < length xs → q (get_or xs k d) ≡ false) → filter q xs ≡ take i xs
filter-upto q xs zero first behind = filter-none q xs (λ k d low. behind k d (omega arith) low)
filter-upto q [] (suc i) first behind = refl
filter-upto q (x ∷ xs) (suc i) first behind =
    ap (λ b. cond b (x ∷ filter q xs) (filter q xs)) (first 0 x (omega arith) (omega arith))
    ∙ ap (λ l. x ∷ l) (filter-upto q xs i (λ k d low in_list. first (suc k) d (omega (arith, low)) (omega (arith, in_list))) (λ k d high in_list. behind (suc k) d (omega (arith, high)) (omega (arith, in_list))))

-- the order of two names, as the three tests see it
le-not_gt : (o : Ordering) → is_le o ≡ true → is_gt o ≡ false
le-not_gt Less e = refl
le-not_gt Equal e = refl
le-not_gt Greater e = absurd (false≢true e)

not_gt-le : (o : Ordering) → is_gt o ≡ false → is_le o ≡ true
not_gt-le Less e = refl
not_gt-le Equal e = refl
not_gt-le Greater e = absurd (false≢true (sym e))

less-other : (o : Ordering) → is_lt o ≡ true → is_eq o ≡ false
less-other Less e = refl
less-other Equal e = absurd (false≢true e)
less-other Greater e = absurd (false≢true e)

neither : (o : Ordering) → is_lt o ≡ false → is_le o ≡ true → is_eq o ≡ true
neither Less e f = absurd (false≢true (sym e))
neither Equal e f = refl
neither Greater e f = absurd (false≢true f)

over : (o : Ordering) → is_le o ≡ false → is_eq o ≡ false
over Less e = absurd (false≢true (sym e))
over Equal e = absurd (false≢true (sym e))
over Greater e = refl

-- In a list in which those before others come first, then these, and then those behind them, these lie between the two places.
module _ {X : Type 0} (standing : X → Ordering) where
  pub between : (xs : List X) (i k : ℕ) → i ≤ length xs → IsPartitionPoint (λ x. is_lt (standing x) ≡ true) (λ x. is_lt (standing x) ≡ false) xs i → IsPartitionPoint (λ x. is_le (standing x) ≡ true) (λ x. is_le (standing x) ≡ false) (drop i xs) k → take k (drop i xs) ≡ filter (λ x. is_eq (standing x)) xs
  between xs i k within first second =
      sym (filter-from (λ x. is_lt (standing x)) (λ x. is_eq (standing x)) (λ x e. less-other (standing x) e) xs i (λ j d low. first.0 j d (omega arith) low)
      ∙ filter-upto (λ x. is_eq (standing x)) (drop i xs) k
      (λ j d low in_list. neither (standing (get_or (drop i xs) j d)) (not_before j d in_list) (second.0 j d (omega arith) low))
      (λ j d high in_list. over (standing (get_or (drop i xs) j d)) (second.1 j d high in_list)))
    where
      not_before : (j : ℕ) (d : X) → j < length (drop i xs) → is_lt (standing (get_or (drop i xs) j d)) ≡ false
      not_before j d in_list =
          let long : length (drop i xs) ≡ length xs - i = length-drop i xs in
          subst (λ x. is_lt (standing x) ≡ false) (sym (get_or-drop i xs j d)) (first.1 (i + j) d (omega arith) (omega (arith, in_list, long, within)))

-- tests that answer alike keep the same
filter-same : {X : Type 0} (f g : X → Bool) → ((x : X) → f x ≡ g x) → (xs : List X) → filter f xs ≡ filter g xs
filter-same f g same [] = refl
filter-same f g same (x ∷ xs) = ap (λ l. cond (f x) (x ∷ l) l) (filter-same f g same xs) ∙ ap (λ b. cond b (x ∷ filter g xs) (filter g xs)) (same x)

-- the names before a third one, and those that don't come after it, come first
before : (a b n : List ℕ) → is_gt (byte_cmp a b) ≡ false → is_lt (byte_cmp b n) ≡ true → is_lt (byte_cmp a n) ≡ true
before a b n = go (byte_cmp a b) refl (byte_cmp b n) refl
  where
    go : (o : Ordering) → byte_cmp a b ≡ o → (u : Ordering) → byte_cmp b n ≡ u → is_gt o ≡ false → is_lt u ≡ true → is_lt (byte_cmp a n) ≡ true
    go Less e Less f h k = ap is_lt (nat_list_cmp_total.trans a b n e f)
    go Equal e Less f h k = ap is_lt (nat_list_cmp_total.congr a b n e ∙ f)
    go Greater e Less f h k = absurd (false≢true (sym h))
    go o e Equal f h k = absurd (false≢true k)
    go o e Greater f h k = absurd (false≢true k)

upto_name : (a b n : List ℕ) → is_gt (byte_cmp a b) ≡ false → is_le (byte_cmp b n) ≡ true → is_le (byte_cmp a n) ≡ true
upto_name a b n first second = not_gt-le (byte_cmp a n) (upto nat_list_cmp_total a b n first (le-not_gt (byte_cmp b n) second))

module _ {X : Type 0} (name : X → List ℕ) (n : List ℕ) where
  abbrev pub comes_before : X → Bool
  comes_before x = is_lt (byte_cmp (name x) n)

  abbrev pub comes_upto : X → Bool
  comes_upto x = is_le (byte_cmp (name x) n)

  abbrev pub has_name : X → Bool
  has_name x = bytes_eq (name x) n

  module _ (xs : List X) (ascend : AllPairs IsNotAfter (map name xs)) where
    in_order : (i j : ℕ) (d : X) → i ≤ j → j < length xs → is_gt (byte_cmp (name (get_or xs i d)) (name (get_or xs j d))) ≡ false
    in_order i j d low high = elim (split i j low) [
      | inl same ↦ subst (λ k. is_gt (byte_cmp (name (get_or xs i d)) (name (get_or xs k d))) ≡ false) same (ap is_gt (tied_itself nat_list_cmp_total (name (get_or xs i d))))
      | inr less ↦
          subst (λ m. is_gt (byte_cmp m (name (get_or xs j d))) ≡ false) (get_or-map name xs i d [] (omega (arith, less, high)))
          (subst (λ m. is_gt (byte_cmp (get_or (map name xs) i []) m) ≡ false) (get_or-map name xs j d [] high) (ascend i j [] less (omega (arith, high, length-map xs name))))
    ]
      where
        split : (i j : ℕ) → i ≤ j → (i ≡ j) ⊎ (i < j)
        split i j low = grind arith

    pub before-parted : IsPartitionedBy comes_before xs
    before-parted i j d low high = before (name (get_or xs i d)) (name (get_or xs j d)) n (in_order i j d low high)

    pub upto-parted : (i : ℕ) → i ≤ length xs → IsPartitionedBy comes_upto (drop i xs)
    upto-parted at within i j d low high e =
        let long : length (drop at xs) ≡ length xs - at = length-drop at xs in
        subst (λ x. comes_upto x ≡ true) (sym (get_or-drop at xs i d))
        (upto_name (name (get_or xs (at + i) d)) (name (get_or xs (at + j) d)) n (in_order (at + i) (at + j) d (omega (arith, low)) (omega (arith, high, long, within)))
        (subst (λ x. comes_upto x ≡ true) (get_or-drop at xs j d) e))

  -- what lies between the two places is what has the name
  pub neighbours : (xs : List X) (i k : ℕ) → i ≤ length xs → IsPartitionPoint (λ x. comes_before x ≡ true) (λ x. comes_before x ≡ false) xs i → IsPartitionPoint (λ x. comes_upto x ≡ true) (λ x. comes_upto x ≡ false) (drop i xs) k → take k (drop i xs) ≡ filter has_name xs
  neighbours xs i k within first second = between (λ x. byte_cmp (name x) n) xs i k within first second ∙ filter-same (λ x. is_eq (byte_cmp (name x) n)) has_name (λ x. is_eq-slice_cmp (name x) n) xs

-- all that comes from a place on
pub rest_from : {X : Type 0} (i : ℕ) (xs : List X) → take (length xs - i) (drop i xs) ≡ drop i xs
rest_from i xs = ap (λ n. take n (drop i xs)) (sym (length-drop i xs)) ∙ take-length (drop i xs)

-- A look-up by bytes among borrowed keys, after a change at one of them.
use Rattle.std.proofs.Common.{◌≡◌, ℕ, Bool, true, false, cond, List, [], Option, Some, None, length, refl, sym, ap, ◌∙◌, Bor, drop, ◌∷◌}
use Rattle.std.specs.FinMap.{nat_cmp-IsAntisymmetric}
use Rattle.std.specs.declared.cmp.Ordering.{Ordering}
use Rattle.std.specs.declared.cmp.Ordering.TheVariants.{Less, Equal, Greater}
use Rattle.std.specs.BTreeMap.{BTreeMap, UpdatesBy, get_by}
use Rattle.std.specs.Cmp.Lexicographic.{slice_cmp}
use Rattle.std.specs.Map.{lookup, KeepsOthers}
use Rattle.std.specs.Option.{option_map_or}
use Rattle.std.specs.Ordering.{is_eq, nat_cmp}
use Rattle.std.specs.declared.collections.VecDeque.{VecDeque}
use Rattle.std.specs.Str.{bytes_eq}
use Rattle.std.proofs.lemmas.Map.Text.{is_eq-slice_cmp}
use Rattle.std.proofs.lemmas.Slice.Eq.{bytes_eq-Decides}
use Rattle.deb_diff.specs.Waiting.{numbers_in, rest_of}
use Rattle.deb_diff.proofs.Pairs.{bytes_eq-sym}

module _ {X : Type 0} where
  -- the value at other bytes stays
  lookup_other : (bs cs : List ℕ) (old new : List (Bor (List ℕ) × X)) → KeepsOthers (λ x y. is_eq (slice_cmp nat_cmp x.now y.now)) (λ k. is_eq (slice_cmp nat_cmp bs k.now)) old new → bytes_eq cs bs ≡ false
      → lookup (λ k. is_eq (slice_cmp nat_cmp cs k.now)) new ≡ lookup (λ k. is_eq (slice_cmp nat_cmp cs k.now)) old
  unfolding KeepsOthers
  lookup_other bs cs old new keeps apart = keeps (λ k. is_eq (slice_cmp nat_cmp cs k.now)) is_test is_apart
    where
      same : (a b : List ℕ) → is_eq (slice_cmp nat_cmp a b) ≡ true → a ≡ b
      same a b e = (bytes_eq-Decides a b).0 (sym (is_eq-slice_cmp a b) ∙ e)

      is_test : (x y : Bor (List ℕ)) → is_eq (slice_cmp nat_cmp cs x.now) ≡ true → is_eq (slice_cmp nat_cmp cs y.now) ≡ is_eq (slice_cmp nat_cmp x.now y.now)
      is_test x y e = ap (λ l. is_eq (slice_cmp nat_cmp l y.now)) (same cs x.now e)

      is_apart : (k : Bor (List ℕ)) → is_eq (slice_cmp nat_cmp bs k.now) ≡ true → is_eq (slice_cmp nat_cmp cs k.now) ≡ false
      is_apart k e = ap (λ l. is_eq (slice_cmp nat_cmp cs l)) (sym (same bs k.now e)) ∙ is_eq-slice_cmp cs bs ∙ apart

-- the numbers under a key change, and those under other keys stay
pub change_in : {B : Type 0} (f : List ℕ → List ℕ) (bs : List ℕ) (m n : BTreeMap (Bor (List ℕ)) (VecDeque ℕ B)) (w : VecDeque ℕ B) → UpdatesBy (λ x y. slice_cmp nat_cmp x.now y.now) (λ k. slice_cmp nat_cmp bs k.now) m n (Some w)
    → w.items ≡ f (numbers_in m bs) → (cs : List ℕ) → numbers_in n cs ≡ cond (bytes_eq bs cs) (f (numbers_in m cs)) (numbers_in m cs)
change_in f bs m n w updates items cs = go (bytes_eq bs cs) refl
  where
    go : (b : Bool) → bytes_eq bs cs ≡ b → numbers_in n cs ≡ cond b (f (numbers_in m cs)) (numbers_in m cs)
    go true equal =
        let same : bs ≡ cs = (bytes_eq-Decides bs cs).0 equal in
        ap (numbers_in n) (sym same) ∙ ap (λ o. option_map_or (λ v. v.items) o []) updates.1 ∙ items ∙ ap (λ l. f (numbers_in m l)) same
    go false apart =
        ap (λ o. option_map_or (λ v. v.items) o []) (lookup_other bs cs m.entries n.entries updates.3 (bytes_eq-sym cs bs ∙ apart))

-- the same after two changes at the key
pub change_twice : {B : Type 0} (f : List ℕ → List ℕ) (bs : List ℕ) (m n p : BTreeMap (Bor (List ℕ)) (VecDeque ℕ B)) (v w : VecDeque ℕ B) → UpdatesBy (λ x y. slice_cmp nat_cmp x.now y.now) (λ k. slice_cmp nat_cmp bs k.now) m n (Some v) → UpdatesBy (λ x y. slice_cmp nat_cmp x.now y.now) (λ k. slice_cmp nat_cmp bs k.now) n p (Some w)
    → w.items ≡ f (numbers_in m bs) → (cs : List ℕ) → numbers_in p cs ≡ cond (bytes_eq bs cs) (f (numbers_in m cs)) (numbers_in m cs)
change_twice f bs m n p v w first second items cs =
    change_in (λ _. f (numbers_in m bs)) bs n p w second items cs ∙ go (bytes_eq bs cs) refl (change_in (λ _. v.items) bs m n v first refl cs)
  where
    go : (b : Bool) → bytes_eq bs cs ≡ b → numbers_in n cs ≡ cond (bytes_eq bs cs) v.items (numbers_in m cs) → cond b (f (numbers_in m bs)) (numbers_in n cs) ≡ cond b (f (numbers_in m cs)) (numbers_in m cs)
    go true equal one = ap (λ l. f (numbers_in m l)) ((bytes_eq-Decides bs cs).0 equal)
    go false apart one = one ∙ ap (λ b. cond b v.items (numbers_in m cs)) apart

-- the numbers under a key, of a map with keys of its length or none
abbrev among : {B : Type 0} → Option (BTreeMap (Bor (List ℕ)) (VecDeque ℕ B)) → List ℕ → List ℕ
among found key = option_map_or (λ numbers. numbers_in numbers key) found []

same_length : (a b : ℕ) → is_eq (nat_cmp a b) ≡ true → a ≡ b
same_length a b e = nat_cmp-IsAntisymmetric a b (equal_is (nat_cmp a b) e)
  where
    equal_is : (o : Ordering) → is_eq o ≡ true → o ≡ Equal
    equal_is Less e = cc e
    equal_is Equal e = refl
    equal_is Greater e = cc e

-- they change with those in the map of its length
pub change_under : {B : Type 0} (f : List ℕ → List ℕ) (bs : List ℕ) (m n : BTreeMap ℕ (BTreeMap (Bor (List ℕ)) (VecDeque ℕ B))) (was : Option (BTreeMap (Bor (List ℕ)) (VecDeque ℕ B))) (w : BTreeMap (Bor (List ℕ)) (VecDeque ℕ B)) → UpdatesBy nat_cmp (nat_cmp (length bs)) m n (Some w)
    → was ≡ get_by (nat_cmp (length bs)) m → ((cs : List ℕ) → numbers_in w cs ≡ cond (bytes_eq bs cs) (f (among was cs)) (among was cs)) → (cs : List ℕ) → among (get_by (nat_cmp (length cs)) n) cs ≡ cond (bytes_eq bs cs) (f (among (get_by (nat_cmp (length cs)) m) cs)) (among (get_by (nat_cmp (length cs)) m) cs)
change_under f bs m n was w updates was_is changed cs = go (bytes_eq bs cs) refl
  where
    before : List ℕ
    before = among (get_by (nat_cmp (length cs)) m) cs

    other : (b : Bool) → is_eq (nat_cmp (length bs) (length cs)) ≡ b → bytes_eq bs cs ≡ false → among (cond b (Some w) (get_by (nat_cmp (length cs)) m)) cs ≡ before
    other true e apart = changed cs ∙ ap (λ b. cond b (f (among was cs)) (among was cs)) apart ∙ ap (λ o. among o cs) (was_is ∙ ap (λ i. get_by (nat_cmp i) m) (same_length (length bs) (length cs) e))
    other false e apart = refl

    go : (b : Bool) → bytes_eq bs cs ≡ b → among (get_by (nat_cmp (length cs)) n) cs ≡ cond b (f before) before
    go true equal =
        let same : length bs ≡ length cs = ap length ((bytes_eq-Decides bs cs).0 equal) in
        ap (λ i. among (get_by (nat_cmp i) n) cs) (sym same) ∙ ap (λ o. among o cs) updates.1 ∙ changed cs
        ∙ ap (λ b. cond b (f (among was cs)) (among was cs)) equal ∙ ap (λ o. f (among o cs)) (was_is ∙ ap (λ i. get_by (nat_cmp i) m) same)
    go false apart = ap (λ o. among o cs) (updates.0 (length cs)) ∙ other (is_eq (nat_cmp (length bs) (length cs))) refl apart

-- no number is under a key, and none is taken
pub none_under : {B : Type 0} (bs : List ℕ) (m : BTreeMap ℕ (BTreeMap (Bor (List ℕ)) (VecDeque ℕ B))) → None ≡ get_by (nat_cmp (length bs)) m → (cs : List ℕ) → among (get_by (nat_cmp (length cs)) m) cs ≡ cond (bytes_eq bs cs) (rest_of (among (get_by (nat_cmp (length cs)) m) cs)) (among (get_by (nat_cmp (length cs)) m) cs)
none_under bs m none cs = go (bytes_eq bs cs) refl
  where
    before : List ℕ
    before = among (get_by (nat_cmp (length cs)) m) cs

    go : (b : Bool) → bytes_eq bs cs ≡ b → before ≡ cond b (rest_of before) before
    go true equal =
        let nothing : before ≡ [] = ap (λ o. among o cs) (ap (λ i. get_by (nat_cmp i) m) (ap length (sym ((bytes_eq-Decides bs cs).0 equal))) ∙ sym none) in
        nothing ∙ sym (ap rest_of nothing)
    go false equal = refl

-- all but the first
pub rest-drop : (xs : List ℕ) → drop 1 xs ≡ rest_of xs
rest-drop [] = refl
rest-drop (x ∷ xs) = refl

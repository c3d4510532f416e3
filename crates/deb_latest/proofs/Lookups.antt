-- What a map from bytes has, after a change and among its entries.
use Rattle.std.proofs.Common.{◌≡◌, ℕ, Bool, true, false, ◌||◌, cond, eqb, List, [], ◌∷◌, map, Option, None, Some, option_map, refl, sym, ap, ◌∙◌, inl, inr, arith}
use Rattle.std.specs.Cmp.{IsEquivalence}
use Rattle.std.specs.List.{list_any}
use Rattle.std.specs.Map.{KeepsOthers, lookup}
use Rattle.std.specs.Prelude.{Vec}
use Rattle.std.specs.Str.{bytes_eq}
use Rattle.std.proofs.lemmas.Bool.{cases_Bool, eqb-true, false≢true}
use Rattle.std.proofs.lemmas.List.Folds.{Any-from_list_any}
use Rattle.std.proofs.lemmas.Map.Entries.{lookup_head, lookup_tail}
use Rattle.std.proofs.lemmas.Map.Views.{lookup-from_Contains}
use Rattle.std.proofs.lemmas.Slice.Eq.{bytes_eq-Decides}
use Rattle.indexmap.specs.IndexMap.{IndexMap, IsUnique, UpdatesBy, get_by}
use Rattle.deb_version.specs.Parts.{Meaning as Version}
use Rattle.deb_latest.specs.BestOf.{AreNumbered, best_in}
use Rattle.deb_latest.specs.Bests.{AreBests, best_kept, best_under, is_later_kept, kept_of, later_kept}
use Rattle.deb_latest.specs.Winning.{Entry, winners}
use Rattle.deb_latest.specs.declared.bests.Best.{Best}
use Rattle.deb_latest.proofs.Wins.{among-best, best-among}

module _ {A X : Type 0} where
  -- the value at other bytes stays
  lookup_other : (bs cs : List ℕ) (old new : List (Vec ℕ A × X)) → KeepsOthers (λ x y. bytes_eq x.items y.items) (λ k. bytes_eq bs k.items) old new → bytes_eq cs bs ≡ false
      → lookup (λ k. bytes_eq cs k.items) new ≡ lookup (λ k. bytes_eq cs k.items) old
  unfolding KeepsOthers
  lookup_other bs cs old new keeps apart = keeps (λ k. bytes_eq cs k.items) is_test is_apart
    where
      is_test : (x y : Vec ℕ A) → bytes_eq cs x.items ≡ true → bytes_eq cs y.items ≡ bytes_eq x.items y.items
      is_test x y e = ap (λ l. bytes_eq l y.items) ((bytes_eq-Decides cs x.items).0 e)

      is_apart : (k : Vec ℕ A) → bytes_eq bs k.items ≡ true → bytes_eq cs k.items ≡ false
      is_apart k e = ap (bytes_eq cs) (sym ((bytes_eq-Decides bs k.items).0 e)) ∙ apart

-- bytes are equal whichever comes first
same_bytes : (bs cs : List ℕ) → bytes_eq bs cs ≡ bytes_eq cs bs
same_bytes bs cs =
    elim (cases_Bool (bytes_eq bs cs)) [
      | inl same ↦ same ∙ sym ((bytes_eq-Decides cs bs).1 (sym ((bytes_eq-Decides bs cs).0 same)))
      | inr apart ↦
          elim (cases_Bool (bytes_eq cs bs)) [
            | inl same ↦ (bytes_eq-Decides bs cs).1 (sym ((bytes_eq-Decides cs bs).0 same)) ∙ sym same
            | inr other ↦ apart ∙ sym other
          ]
    ]

-- the value at each name after one was put under a name
updated : {A X S : Type 0} (bs : List ℕ) (m n : IndexMap (Vec ℕ A) X S) (w : X) → UpdatesBy (λ x y. bytes_eq x.items y.items) (λ k. bytes_eq bs k.items) m n (Some w)
    → (cs : List ℕ) → get_by (λ k. bytes_eq cs k.items) n ≡ cond (bytes_eq bs cs) (Some w) (get_by (λ k. bytes_eq cs k.items) m)
updated bs m n w updates cs =
    elim (cases_Bool (bytes_eq bs cs)) [
      | inl equal ↦
          let same : bs ≡ cs = (bytes_eq-Decides bs cs).0 equal in
          ap (λ l. get_by (λ k. bytes_eq l k.items) n) (sym same) ∙ updates.1
          ∙ ap (λ v. cond v (Some w) (get_by (λ k. bytes_eq cs k.items) m)) (sym equal)
      | inr apart ↦
          lookup_other bs cs m.entries n.entries updates.3 (same_bytes cs bs ∙ apart)
          ∙ ap (λ v. cond v (Some w) (get_by (λ k. bytes_eq cs k.items) m)) (sym apart)
    ]

stays : (o : Option (List ℕ × ℕ)) (kept : List ℕ × ℕ) → is_later_kept o kept.0 ≡ false → o ≡ Some (later_kept o kept)
stays None kept h = absurd (false≢true (sym h))
stays (Some b) kept h = ap (λ v. Some (cond v kept b)) (sym h)

takes : (o : Option (List ℕ × ℕ)) (kept : List ℕ × ℕ) → is_later_kept o kept.0 ≡ true → later_kept o kept ≡ kept
takes None kept h = refl
takes (Some b) kept h = ap (λ v. cond v kept b) h

module _ {A S : Type 0} (key : List ℕ) (old : IndexMap (Vec ℕ A) Best S) (kept : List ℕ × ℕ) (other : List ℕ) where
  -- what isn't later changes nothing
  pub put-same : is_later_kept (best_under old key) kept.0 ≡ false → best_under old other ≡ cond (bytes_eq key other) (Some (later_kept (best_under old key) kept)) (best_under old other)
  put-same not_later =
      elim (cases_Bool (bytes_eq key other)) [
        | inl equal ↦
            ap (best_under old) (sym ((bytes_eq-Decides key other).0 equal)) ∙ stays (best_under old key) kept not_later
            ∙ ap (λ v. cond v (Some (later_kept (best_under old key) kept)) (best_under old other)) (sym equal)
        | inr apart ↦ ap (λ v. cond v (Some (later_kept (best_under old key) kept)) (best_under old other)) (sym apart)
      ]

  -- what is later is there afterwards
  pub put-new : (bytes : List ℕ) (new : IndexMap (Vec ℕ A) Best S) (w : Best) → is_later_kept (best_under old key) kept.0 ≡ true → bytes ≡ key → best_kept w ≡ kept
      → UpdatesBy (λ x y. bytes_eq x.items y.items) (λ k. bytes_eq bytes k.items) old new (Some w)
      → best_under new other ≡ cond (bytes_eq key other) (Some (later_kept (best_under old key) kept)) (best_under old other)
  put-new bytes new w later is value updates =
      ap (option_map best_kept) (updated bytes old new w updates other)
      ∙ go (bytes_eq bytes other)
      ∙ ap (λ b. cond (bytes_eq b other) (Some (best_kept w)) (best_under old other)) is
      ∙ ap (λ k. cond (bytes_eq key other) (Some k) (best_under old other)) (value ∙ sym (takes (best_under old key) kept later))
    where
      go : (v : Bool) → option_map best_kept (cond v (Some w) (get_by (λ k. bytes_eq other k.items) old)) ≡ cond v (Some (best_kept w)) (best_under old other)
      go true = refl
      go false = refl

-- bytes as keys
alike : {A : Type 0} → IsEquivalence {K = Vec ℕ A} (λ x y. bytes_eq x.items y.items)
alike = record {
  refl = λ x. (bytes_eq-Decides x.items x.items).1 refl;
  symm = λ x y. same_bytes x.items y.items;
  congr = λ x y z same. ap (λ l. bytes_eq l z.items) ((bytes_eq-Decides x.items y.items).0 same);
}

any-map : {X Y : Type 0} (f : X → Y) (p : Y → Bool) (xs : List X) → list_any p (map f xs) ≡ list_any (λ x. p (f x)) xs
any-map f p [] = refl
any-map f p (x ∷ xs) = ap (λ v. p (f x) || v) (any-map f p xs)

any-value : {K X : Type 0} (test : K → Bool) (f : X → Bool) (es : List (K × X)) (v : X) → lookup test es ≡ Some v → f v ≡ true → list_any (λ e. f e.1) es ≡ true
any-value test f [] v found passes = absurd (cc)
any-value test f (e ∷ es) v found passes =
    elim (cases_Bool (test e.0)) [
      | inl at ↦ first (sym (lookup_head test e es at) ∙ found)
      | inr apart ↦ later (f e.1) (list_any (λ e. f e.1) es) (any-value test f es v (sym (lookup_tail test e es apart) ∙ found) passes)
    ]
  where
    first : Some e.1 ≡ Some v → (f e.1 || list_any (λ e. f e.1) es) ≡ true
    first same = let is : e.1 ≡ v = cc in ap (λ b. b || list_any (λ e. f e.1) es) (ap f is ∙ passes)

    later : (a b : Bool) → b ≡ true → (a || b) ≡ true
    later true b h = refl
    later false b h = h

one_truth : (a b : Bool) → (a ≡ true → b ≡ true) → (b ≡ true → a ≡ true) → a ≡ b
one_truth true b f g = sym (f refl)
one_truth false true f g = g refl
one_truth false false f g = refl

abbrev pub number_in : {K : Type 0} → K × Best → ℕ
number_in e = e.1.number

-- the numbers in a map of the best paragraphs are those of the paragraphs that win
module _ {A S : Type 0} (limit : Option Version) (entries : List Entry) (numbered : AreNumbered 0 entries) (bests : IndexMap (Vec ℕ A) Best S) (are : AreBests limit entries bests) (distinct : IsUnique (λ x y. bytes_eq x.items y.items) bests) (k : ℕ) where
  from_map : list_any (λ e. eqb k (number_in e)) bests.entries ≡ true → list_any (eqb k) (winners limit entries) ≡ true
  from_map some =
      let found = Any-from_list_any (λ e. eqb k (number_in e)) bests.entries some in
      let e = found.1 in
      let at : get_by (λ q. bytes_eq e.0.items q.items) bests ≡ Some e.1 = lookup-from_Contains alike e.0 e.1 bests.entries distinct (found.0, found.2, found.3) in
      let best : Some (best_kept e.1) ≡ option_map kept_of (best_in limit e.0.items entries) = sym (ap (option_map best_kept) at) ∙ are e.0.items in
      go e.0.items (best_in limit e.0.items entries) refl (e.1.number) (sym (eqb-true k e.1.number found.4)) (best_kept e.1) refl best
    where
      go : (key : List ℕ) (o : Option Entry) → best_in limit key entries ≡ o → (number : ℕ) → number ≡ k → (kept : List ℕ × ℕ) → kept.1 ≡ number → Some kept ≡ option_map kept_of o → list_any (eqb k) (winners limit entries) ≡ true
      go key None is number equal kept of best = absurd (cc)
      go key (Some b) is number equal kept of best =
          let same : kept ≡ kept_of b = cc in
          best-among limit k key b entries numbered is (sym (ap (λ p. p.1) same) ∙ of ∙ equal)

  to_map : list_any (eqb k) (winners limit entries) ≡ true → list_any (λ e. eqb k (number_in e)) bests.entries ≡ true
  to_map some =
      let found = among-best limit k entries numbered some in
      let at : best_under bests found.0 ≡ Some (kept_of found.1) = are found.0 ∙ ap (option_map kept_of) found.2 in
      go found.0 found.1 found.3 (get_by (λ q. bytes_eq found.0 q.items) bests) refl at
    where
      eqb-is : (m : ℕ) → m ≡ k → eqb k m ≡ true
      eqb-is m is = grind (is, arith)

      go : (key : List ℕ) (b : Entry) → b.number ≡ k → (o : Option Best) → get_by (λ q. bytes_eq key q.items) bests ≡ o → option_map best_kept o ≡ Some (kept_of b) → list_any (λ e. eqb k (number_in e)) bests.entries ≡ true
      go key b number None is at = absurd (cc)
      go key b number (Some best) is at =
          let same : best_kept best ≡ kept_of b = cc in
          any-value (λ q. bytes_eq key q.items) (λ w. eqb k w.number) bests.entries best is (eqb-is best.number (ap (λ p. p.1) same ∙ number))

  pub same-numbers : list_any (eqb k) (map number_in bests.entries) ≡ list_any (eqb k) (winners limit entries)
  same-numbers = any-map number_in (eqb k) bests.entries ∙ one_truth _ _ from_map to_map

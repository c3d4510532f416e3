-- A look-up by bytes among keys that own theirs, after a change at one of them.
use Rattle.std.proofs.Common.{◌≡◌, ℕ, Bool, true, false, cond, List, [], ◌∷◌, ◌++◌, Option, None, Some, option_map, refl, sym, ap, ◌∙◌, inl, inr}
use Rattle.std.specs.Map.{lookup, KeepsOthers}
use Rattle.std.specs.Prelude.{Vec}
use Rattle.std.specs.Str.{bytes_eq}
use Rattle.std.proofs.lemmas.Bool.{cases_Bool}
use Rattle.std.proofs.lemmas.Slice.Eq.{bytes_eq-Decides}
use Rattle.indexmap.specs.IndexMap.{IndexMap, UpdatesBy, get_by}
use Rattle.deb_index.specs.Maps.{list_under, numbers_with}

module _ {A X : Type 0} where
  -- the value at other bytes stays
  lookup_other : (bs cs : List ℕ) (old new : List (Vec ℕ A × X)) → KeepsOthers (λ x y. bytes_eq x.items y.items) (λ k. bytes_eq bs k.items) old new → bytes_eq cs bs ≡ false
      → lookup (λ k. bytes_eq cs k.items) new ≡ lookup (λ k. bytes_eq cs k.items) old
  unfolding KeepsOthers
  lookup_other bs cs old new keeps apart = keeps (λ k. bytes_eq cs k.items) is_test is_apart
    where
      is_test : (x y : Vec ℕ A) → bytes_eq cs x.items ≡ true → bytes_eq cs y.items ≡ bytes_eq x.items y.items
      is_test x y e = ap (λ l. bytes_eq l y.items) ((bytes_eq-Decides cs x.items).0 e)

      is_apart : (k : Vec ℕ A) → bytes_eq bs k.items ≡ true → bytes_eq cs k.items ≡ false
      is_apart k e = ap (bytes_eq cs) (sym ((bytes_eq-Decides bs k.items).0 e)) ∙ apart

-- bytes are equal whichever comes first
pub same_bytes : (bs cs : List ℕ) → bytes_eq bs cs ≡ bytes_eq cs bs
same_bytes bs cs =
    elim (cases_Bool (bytes_eq bs cs)) [
      | inl same ↦ same ∙ sym ((bytes_eq-Decides cs bs).1 (sym ((bytes_eq-Decides bs cs).0 same)))
      | inr apart ↦
          elim (cases_Bool (bytes_eq cs bs)) [
            | inl same ↦ (bytes_eq-Decides bs cs).1 (sym ((bytes_eq-Decides cs bs).0 same)) ∙ sym same
            | inr other ↦ apart ∙ sym other
          ]
    ]

-- the value at each name after one was put under a name
pub updated : {A X S : Type 0} (bs : List ℕ) (m n : IndexMap (Vec ℕ A) X S) (w : X) → UpdatesBy (λ x y. bytes_eq x.items y.items) (λ k. bytes_eq bs k.items) m n (Some w)
    → (cs : List ℕ) → get_by (λ k. bytes_eq cs k.items) n ≡ cond (bytes_eq bs cs) (Some w) (get_by (λ k. bytes_eq cs k.items) m)
updated bs m n w updates cs =
    elim (cases_Bool (bytes_eq bs cs)) [
      | inl equal ↦
          let same : bs ≡ cs = (bytes_eq-Decides bs cs).0 equal in
          ap (λ l. get_by (λ k. bytes_eq l k.items) n) (sym same) ∙ updates.1
          ∙ ap (λ v. cond v (Some w) (get_by (λ k. bytes_eq cs k.items) m)) (sym equal)
      | inr apart ↦
          lookup_other bs cs m.entries n.entries updates.3 (same_bytes cs bs ∙ apart)
          ∙ ap (λ v. cond v (Some w) (get_by (λ k. bytes_eq cs k.items) m)) (sym apart)
    ]

-- the list at each name after one was put under a name
pub list_updated : {A B S : Type 0} (bs : List ℕ) (m n : IndexMap (Vec ℕ A) (Vec ℕ B) S) (w : Vec ℕ B) (xs : List ℕ) → UpdatesBy (λ x y. bytes_eq x.items y.items) (λ k. bytes_eq bs k.items) m n (Some w) → w.items ≡ xs
    → (cs : List ℕ) → list_under n cs ≡ cond (bytes_eq bs cs) (Some xs) (list_under m cs)
list_updated {A} {B} bs m n w xs updates are cs = ap (option_map (λ v. v.items)) (updated bs m n w updates cs) ∙ go (bytes_eq bs cs) (get_by (λ k. bytes_eq cs k.items) m)
  where
    go : (e : Bool) (o : Option (Vec ℕ B)) → option_map (λ v. v.items) (cond e (Some w) o) ≡ cond e (Some xs) (option_map (λ v. v.items) o)
    go true o = ap Some are
    go false o = refl

-- the same after a list of two numbers was put under a name that had none
pub list_begun : {A B S : Type 0} (bs name : List ℕ) (m old n : IndexMap (Vec ℕ A) (Vec ℕ B) S) (w : Vec ℕ B) (before number : ℕ) → m ≡ old → bs ≡ name → None ≡ get_by (λ k. bytes_eq name k.items) old
    → UpdatesBy (λ x y. bytes_eq x.items y.items) (λ k. bytes_eq bs k.items) m n (Some w) → w.items ≡ before ∷ number ∷ []
    → (cs : List ℕ) → list_under n cs ≡ cond (bytes_eq name cs) (Some (numbers_with (list_under old name) (Some before) ++ number ∷ [])) (list_under old cs)
list_begun bs name m old n w before number same key none updates are cs =
    let now = numbers_with (list_under old name) (Some before) ++ number ∷ [] in
    list_updated bs m n w now updates (are ∙ ap (λ o. numbers_with (option_map (λ v. v.items) o) (Some before) ++ number ∷ []) none) cs
    ∙ ap (λ l. cond (bytes_eq l cs) (Some now) (list_under m cs)) key
    ∙ ap (λ x. cond (bytes_eq name cs) (Some now) (list_under x cs)) same

-- What a map of tests has under each name after one more was put.
use Rattle.std.proofs.Common.{◌≡◌, ℕ, Bool, true, false, cond, List, [], ◌∷◌, ◌++◌, map, Option, None, Some, refl, sym, ap, ◌∙◌, inl, inr}
use Rattle.std.proofs.lemmas.List.{map-append}
use Rattle.std.specs.Map.{KeepsOthers, lookup}
use Rattle.std.specs.Prelude.{Vec}
use Rattle.std.specs.Str.{bytes_eq}
use Rattle.std.proofs.lemmas.Bool.{cases_Bool}
use Rattle.std.proofs.lemmas.Slice.Eq.{bytes_eq-Decides}
use Rattle.indexmap.specs.IndexMap.{IndexMap, UpdatesBy, get_by}
use Rattle.deb_select.specs.Kept.{KeptTest, test_shown}
use Rattle.deb_select.specs.Selections.{tests_in, tests_under}
use Rattle.deb_select.specs.declared.test.Test.{Test}

module _ {A X : Type 0} where
  -- the value at other bytes stays
  lookup_other : (bs cs : List ℕ) (old new : List (Vec ℕ A × X)) → KeepsOthers (λ x y. bytes_eq x.items y.items) (λ k. bytes_eq bs k.items) old new → bytes_eq cs bs ≡ false
      → lookup (λ k. bytes_eq cs k.items) new ≡ lookup (λ k. bytes_eq cs k.items) old
  unfolding KeepsOthers
  lookup_other bs cs old new keeps apart = keeps (λ k. bytes_eq cs k.items) is_test is_apart
    where
      is_test : (x y : Vec ℕ A) → bytes_eq cs x.items ≡ true → bytes_eq cs y.items ≡ bytes_eq x.items y.items
      is_test x y e = ap (λ l. bytes_eq l y.items) ((bytes_eq-Decides cs x.items).0 e)

      is_apart : (k : Vec ℕ A) → bytes_eq bs k.items ≡ true → bytes_eq cs k.items ≡ false
      is_apart k e = ap (bytes_eq cs) (sym ((bytes_eq-Decides bs k.items).0 e)) ∙ apart

-- bytes are equal whichever comes first
pub same_bytes : (bs cs : List ℕ) → bytes_eq bs cs ≡ bytes_eq cs bs
same_bytes bs cs =
    elim (cases_Bool (bytes_eq bs cs)) [
      | inl same ↦ same ∙ sym ((bytes_eq-Decides cs bs).1 (sym ((bytes_eq-Decides bs cs).0 same)))
      | inr apart ↦
          elim (cases_Bool (bytes_eq cs bs)) [
            | inl same ↦ (bytes_eq-Decides bs cs).1 (sym ((bytes_eq-Decides cs bs).0 same)) ∙ sym same
            | inr other ↦ apart ∙ sym other
          ]
    ]

-- the value at each name after one was put under a name
updated : {A X S : Type 0} (bs : List ℕ) (m n : IndexMap (Vec ℕ A) X S) (w : X) → UpdatesBy (λ x y. bytes_eq x.items y.items) (λ k. bytes_eq bs k.items) m n (Some w)
    → (cs : List ℕ) → get_by (λ k. bytes_eq cs k.items) n ≡ cond (bytes_eq bs cs) (Some w) (get_by (λ k. bytes_eq cs k.items) m)
updated bs m n w updates cs =
    elim (cases_Bool (bytes_eq bs cs)) [
      | inl equal ↦
          let same : bs ≡ cs = (bytes_eq-Decides bs cs).0 equal in
          ap (λ l. get_by (λ k. bytes_eq l k.items) n) (sym same) ∙ updates.1
          ∙ ap (λ v. cond v (Some w) (get_by (λ k. bytes_eq cs k.items) m)) (sym equal)
      | inr apart ↦
          lookup_other bs cs m.entries n.entries updates.3 (same_bytes cs bs ∙ apart)
          ∙ ap (λ v. cond v (Some w) (get_by (λ k. bytes_eq cs k.items) m)) (sym apart)
    ]

-- the tests at each name after some were put under a name
replaced : {A B S : Type 0} (bs : List ℕ) (m n : IndexMap (Vec ℕ A) (Vec Test B) S) (w : Vec Test B) (now : List KeptTest) → UpdatesBy (λ x y. bytes_eq x.items y.items) (λ k. bytes_eq bs k.items) m n (Some w) → map test_shown w.items ≡ now
    → (cs : List ℕ) → tests_under n cs ≡ cond (bytes_eq bs cs) now (tests_under m cs)
replaced {A} {B} bs m n w now updates are cs = ap tests_in (updated bs m n w updates cs) ∙ go (bytes_eq bs cs) (get_by (λ k. bytes_eq cs k.items) m)
  where
    go : (e : Bool) (o : Option (Vec Test B)) → tests_in (cond e (Some w) o) ≡ cond e now (tests_in o)
    go true o = are
    go false o = refl

-- after one was appended to those of a name
pub appended : {A B S : Type 0} (bs key : List ℕ) (m n : IndexMap (Vec ℕ A) (Vec Test B) S) (w before : Vec Test B) (test : Test) → key ≡ bs
    → UpdatesBy (λ x y. bytes_eq x.items y.items) (λ k. bytes_eq key k.items) m n (Some w) → Some before ≡ get_by (λ k. bytes_eq key k.items) m → w.items ≡ before.items ++ test ∷ []
    → (cs : List ℕ) → tests_under n cs ≡ cond (bytes_eq bs cs) (tests_under m bs ++ test_shown test ∷ []) (tests_under m cs)
appended bs key m n w before test same updates found are cs =
    replaced key m n w (tests_under m key ++ test_shown test ∷ []) updates
    (ap (map test_shown) are ∙ map-append test_shown before.items (test ∷ []) ∙ ap (λ o. tests_in o ++ test_shown test ∷ []) found) cs
    ∙ ap (λ l. cond (bytes_eq l cs) (tests_under m l ++ test_shown test ∷ []) (tests_under m cs)) same

-- after one was put under a name that had none
pub begun : {A B S : Type 0} (bs key : List ℕ) (m old n : IndexMap (Vec ℕ A) (Vec Test B) S) (w : Vec Test B) (test : Test) → m ≡ old → key ≡ bs
    → UpdatesBy (λ x y. bytes_eq x.items y.items) (λ k. bytes_eq bs k.items) m n (Some w) → None ≡ get_by (λ k. bytes_eq key k.items) old → w.items ≡ test ∷ []
    → (cs : List ℕ) → tests_under n cs ≡ cond (bytes_eq bs cs) (tests_under old bs ++ test_shown test ∷ []) (tests_under old cs)
begun bs key m old n w test same name updates none are cs =
    replaced bs m n w (test_shown test ∷ []) updates (ap (map test_shown) are) cs
    ∙ ap (λ x. cond (bytes_eq bs cs) (test_shown test ∷ []) (tests_under x cs)) same
    ∙ ap (λ o. cond (bytes_eq bs cs) (tests_in o ++ test_shown test ∷ []) (tests_under old cs)) (none ∙ ap (λ l. get_by (λ k. bytes_eq l k.items) old) name)

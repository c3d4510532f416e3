-- The byte order of restriction lists, item by item.
use Rattle.std.proofs.Common.{◌≡◌, ◌≢◌, ◌⊎◌, inl, inr, ℕ, ◌-◌, ◌==◌, ◌<◌, ◌≤◌, nat_lt, min, get_or, take, drop, Bool, true, false, not, cond, List, [], ◌∷◌, ◌++◌, length, map, IsTrue, Ok, refl, sym, ap, ◌∙◌, subst, append_assoc, length-append, codes, arith}
use Rattle.std.specs.Cmp.{nat_cmp_is}
use Rattle.std.specs.List.{AllByRecursion, list_all}
use denote.Ref.{Bor}
use Rattle.std.specs.Ordering.{is_ne, nat_cmp, ordering_then, ordering_reverse}
use Rattle.std.proofs.Math.Seq.{take-length}
use Rattle.std.proofs.lemmas.Cmp.{nat_list_cmp_total}
use Rattle.std.specs.declared.cmp.Ordering.{Ordering}
use Rattle.std.specs.declared.cmp.Ordering.TheVariants.{Less, Equal, Greater}
use Rattle.std.proofs.lemmas.Bool.{and_parts, ne_eqb}
use Rattle.deb_base.specs.PackageNames.{is_profile_name}
use Rattle.deb_version.proofs.BaseOrder.{ordering_then_assoc, before-Equal}
use Rattle.deb_version.proofs.ByteLemmas.{differs}
use Rattle.deb_relation.specs.ProfileLists.{are_profiles, end_before, ended_text, first_of}
use Rattle.deb_relation.specs.Meaning.{Item, Restrictions}
use Rattle.deb_relation.specs.Reading.{is_before, is_empty_list, read_restrictions}
use Rattle.deb_relation.specs.Sets.{byte_cmp}
use Rattle.deb_relation.specs.Texts.{item_text, restrictions_text, separated}
use Rattle.deb_relation.specs.Views.{item_of, items_of}
use Rattle.deb_relation.proofs.Bytes.{profile_bytes, signed_run}
use Rattle.deb_relation.proofs.ReadLists.{restrictions_took}
use Rattle.deb_relation.proofs.Runs.{Passes}
use Rattle.deb_relation.proofs.SetLemmas.{all-set_with}
use Rattle.deb_relation.proofs.SpelledLists.{empty_list-some, set_of-some}

-- the list that is read has items that name profiles
tested : (items : Restrictions) → items ≢ [] → AllByRecursion (λ item. IsTrue (is_profile_name item.1)) items → IsTrue (are_profiles items)
tested items some all = rw (empty_list-some items some) (each items all)
  where
    each : (items : Restrictions) → AllByRecursion (λ item. IsTrue (is_profile_name item.1)) items → list_all (λ item. is_profile_name item.1) items ≡ true
    each [] all = refl
    each (item ∷ items) all = rw (all.0, each items all.1) refl

pub profiles_read : (text : List ℕ) (items : Restrictions) (rest : List ℕ) → read_restrictions text ≡ Ok (items, rest) → IsTrue (are_profiles items)
profiles_read text items rest e =
    let l = restrictions_took text (items, rest) e in
    subst (λ set. IsTrue (are_profiles set)) (sym l.set) (tested _ (set_of-some item_text l.items [] l.some) (all-set_with item_text (λ item. IsTrue (is_profile_name item.1)) l.items [] l.good tt))

-- lists, one of them empty, by their lengths
less_none : {A : Type 0} (x : A) (xs : List A) → nat_cmp 0 (length (x ∷ xs)) ≡ Less
less_none x xs = sym (nat_cmp_is 0 (length (x ∷ xs)) Less (omega arith))

more_none : {A : Type 0} (x : A) (xs : List A) → nat_cmp (length (x ∷ xs)) 0 ≡ Greater
more_none x xs = sym (nat_cmp_is (length (x ∷ xs)) 0 Greater (omega arith))

last_less : (b : List ℕ) (u : ℕ) → byte_cmp [] (b ++ u ∷ []) ≡ Less
last_less [] u = refl
last_less (c ∷ b) u = refl

last_more : (a : List ℕ) (t : ℕ) → byte_cmp (a ++ t ∷ []) [] ≡ Greater
last_more [] t = refl
last_more (c ∷ a) t = refl

-- texts, one of them empty
pub ends-cmp : (a b : List ℕ) (t u : ℕ) → (a ≡ []) ⊎ (b ≡ []) → ordering_then (nat_cmp (first_of a t) (first_of b u)) (nat_cmp (length a) (length b)) ≡ byte_cmp (a ++ t ∷ []) (b ++ u ∷ [])
ends-cmp [] [] t u one = refl
ends-cmp [] (c ∷ b) t u one = ap (ordering_then (nat_cmp t c)) (less_none c b ∙ sym (last_less b u))
ends-cmp (c ∷ a) [] t u one = ap (ordering_then (nat_cmp c u)) (more_none c a ∙ sym (last_more a t))
ends-cmp (c ∷ a) (d ∷ b) t u (inl e) = absurd cc
ends-cmp (c ∷ a) (d ∷ b) t u (inr e) = absurd cc

-- texts as long as each other, and what follows them
pub fronts-cmp : (a b x y : List ℕ) → length a ≡ length b → byte_cmp (a ++ x) (b ++ y) ≡ ordering_then (byte_cmp a b) (byte_cmp x y)
fronts-cmp [] [] x y same = refl
fronts-cmp [] (c ∷ b) x y same = absurd (omega (arith, same))
fronts-cmp (c ∷ a) [] x y same = absurd (omega (arith, same))
fronts-cmp (c ∷ a) (d ∷ b) x y same = ap (ordering_then (nat_cmp c d)) (fronts-cmp a b x y (omega (arith, same))) ∙ sym (ordering_then_assoc (nat_cmp c d) (byte_cmp a b) (byte_cmp x y))

-- texts cut after as many bytes as the shorter one has
pub ended_front : (a b front back front' back' : List ℕ) (t u both : ℕ) (o p r : Ordering) → both ≡ min (length a) (length b) → a ≡ front ++ back → b ≡ front' ++ back' → length front ≡ both → length front' ≡ both → o ≡ byte_cmp front front' → ((back ≡ []) ⊎ (back' ≡ []) → p ≡ byte_cmp (back ++ t ∷ []) (back' ++ u ∷ [])) → r ≡ ordering_then o p → r ≡ byte_cmp (a ++ t ∷ []) (b ++ u ∷ [])
ended_front a b front back front' back' t u both o p r least is_a is_b len len' is_o is_p is_r =
    is_r ∙ ap (λ o. ordering_then o p) is_o ∙ ap (ordering_then (byte_cmp front front')) (is_p (one_empty back back' lengths))
    ∙ sym (fronts-cmp front front' (back ++ t ∷ []) (back' ++ u ∷ []) (len ∙ sym len'))
    ∙ ap (λ l. byte_cmp l (front' ++ (back' ++ u ∷ []))) (sym (append_assoc front back (t ∷ [])) ∙ ap (λ l. l ++ t ∷ []) (sym is_a))
    ∙ ap (byte_cmp (a ++ t ∷ [])) (sym (append_assoc front' back' (u ∷ [])) ∙ ap (λ l. l ++ u ∷ []) (sym is_b))
  where
    one_empty : (xs ys : List ℕ) → min (length xs) (length ys) ≡ 0 → (xs ≡ []) ⊎ (ys ≡ [])
    one_empty [] ys e = inl refl
    one_empty (x ∷ xs) [] e = inr refl
    one_empty (x ∷ xs) (y ∷ ys) e = absurd (omega (arith, e))

    lengths : min (length back) (length back') ≡ 0
    lengths = omega (arith, least, len, len', ap length is_a, ap length is_b, length-append front back, length-append front' back')

-- a name with `!` before it, against the byte after an empty text
pub marked_none : (name : List ℕ) (t : ℕ) (other : List ℕ) (u : ℕ) → length other ≡ 0 → ordering_then (nat_cmp 33 u) Greater ≡ byte_cmp (33 ∷ (name ++ t ∷ [])) (other ++ u ∷ [])
marked_none [] t [] u none = refl
marked_none (b ∷ bs) t [] u none = refl
marked_none name t (b ∷ bs) u none = absurd (omega (arith, none))

-- of two bytes that differ, the first that are compared
unequal : (x y : ℕ) → (x == y) ≡ false → (p q r : Ordering) → ordering_then (nat_cmp x y) p ≡ ordering_then (ordering_then (nat_cmp x y) q) r
unequal x y e p q r = rw e (by_less (nat_lt x y))
  where
    by_less : (b : Bool) → ordering_then (cond b Less Greater) p ≡ ordering_then (ordering_then (cond b Less Greater) q) r
    by_less true = refl
    by_less false = refl

-- Texts without the bytes that end them: those with their ends decide, and else what follows.
pub ended-cmp : (test : ℕ → Bool) (a b : List ℕ) (t u : ℕ) (x y : List ℕ) → Passes test a → Passes test b → test t ≡ false → test u ≡ false → byte_cmp (a ++ t ∷ x) (b ++ u ∷ y) ≡ ordering_then (byte_cmp (a ++ t ∷ []) (b ++ u ∷ [])) (byte_cmp x y)
ended-cmp test [] [] t u x y p q ends ends' = ap (λ o. ordering_then o (byte_cmp x y)) (sym (before-Equal (nat_cmp t u)))
ended-cmp test [] (c ∷ b) t u x y p q ends ends' = unequal t c (ne_eqb t c (λ e. differs test t ends c q.0 (sym e))) _ _ _
ended-cmp test (c ∷ a) [] t u x y p q ends ends' = unequal c u (ne_eqb c u (differs test u ends' c p.0)) _ _ _
ended-cmp test (c ∷ a) (d ∷ b) t u x y p q ends ends' = ap (ordering_then (nat_cmp c d)) (ended-cmp test a b t u x y p.1 q.1 ends ends') ∙ sym (ordering_then_assoc (nat_cmp c d) (byte_cmp (a ++ t ∷ []) (b ++ u ∷ [])) (byte_cmp x y))

-- a list's text, without its first byte
ended_more : (items : Restrictions) → separated (codes " ") (map item_text items) ++ codes ">" ≡ end_before items ∷ ended_text items
ended_more [] = refl
ended_more (item ∷ items) = ap (λ t. 32 ∷ t) (append_assoc (item_text item) (separated (codes " ") (map item_text items)) (codes ">") ∙ ap (λ t. item_text item ++ t) (ended_more items))

pub ended_is : (items : Restrictions) → IsTrue (are_profiles items) → restrictions_text items ≡ 60 ∷ ended_text items
ended_is [] some = absurd cc
ended_is (item ∷ items) some = ap (λ t. 60 ∷ t) (append_assoc (item_text item) (separated (codes " ") (map item_text items)) (codes ">") ∙ ap (λ t. item_text item ++ t) (ended_more items))

abbrev pub AreProfiles : Restrictions → Type 0
AreProfiles items = list_all (λ item. is_profile_name item.1) items ≡ true

-- what is left to compare of two lists
pub record IsLeft (a b left right : Restrictions) : Type 0 where
  pub left_names : AreProfiles left
  pub right_names : AreProfiles right
  pub same : byte_cmp (restrictions_text a) (restrictions_text b) ≡ byte_cmp (ended_text left) (ended_text right)

pub left-all : (a b : Restrictions) → IsTrue (are_profiles a) → IsTrue (are_profiles b) → IsLeft a b a b
left-all a b p q = record {
  left_names = (and_parts (not (is_empty_list a)) (list_all (λ item. is_profile_name item.1) a) p).1;
  right_names = (and_parts (not (is_empty_list b)) (list_all (λ item. is_profile_name item.1) b) q).1;
  same = ap (λ t. byte_cmp t (restrictions_text b)) (ended_is a p) ∙ ap (byte_cmp (60 ∷ ended_text a)) (ended_is b q);
}

-- a first item of each
item_passes : (item : Item) → is_profile_name item.1 ≡ true → Passes (is_before 62) (item_text item)
item_passes item is = signed_run item.0 item.1 62 refl refl (profile_bytes item.1 is)

end_fails : (items : Restrictions) → is_before 62 (end_before items) ≡ false
end_fails [] = refl
end_fails (item ∷ items) = refl

pub first_items : (i j : Item) (more more' : Restrictions) → AreProfiles (i ∷ more) → AreProfiles (j ∷ more') → byte_cmp (ended_text (i ∷ more)) (ended_text (j ∷ more')) ≡ ordering_then (byte_cmp (item_text i ++ end_before more ∷ []) (item_text j ++ end_before more' ∷ [])) (byte_cmp (ended_text more) (ended_text more'))
first_items i j more more' p q =
    ended-cmp (is_before 62) (item_text i) (item_text j) (end_before more) (end_before more') (ended_text more) (ended_text more')
    (item_passes i (and_parts (is_profile_name i.1) (list_all (λ item. is_profile_name item.1) more) p).0)
    (item_passes j (and_parts (is_profile_name j.1) (list_all (λ item. is_profile_name item.1) more') q).0)
    (end_fails more) (end_fails more')

module _ (a b : Restrictions) (i j : Item) (more more' : Restrictions) (is : IsLeft a b (i ∷ more) (j ∷ more')) where
  pub left-more : byte_cmp (item_text i ++ end_before more ∷ []) (item_text j ++ end_before more' ∷ []) ≡ Equal → IsLeft a b more more'
  left-more e = record {
    left_names = (and_parts (is_profile_name i.1) (list_all (λ item. is_profile_name item.1) more) is.left_names).1;
    right_names = (and_parts (is_profile_name j.1) (list_all (λ item. is_profile_name item.1) more') is.right_names).1;
    same = is.same ∙ first_items i j more more' is.left_names is.right_names ∙ ap (λ o. ordering_then o (byte_cmp (ended_text more) (ended_text more'))) e;
  }

  pub left-decided : (o : Ordering) → o ≡ byte_cmp (item_text i ++ end_before more ∷ []) (item_text j ++ end_before more' ∷ []) → o ≢ Equal → o ≡ byte_cmp (restrictions_text a) (restrictions_text b)
  left-decided o e differ =
      by_order o differ (byte_cmp (ended_text more) (ended_text more')) ∙ ap (λ o. ordering_then o (byte_cmp (ended_text more) (ended_text more'))) e ∙ sym (is.same ∙ first_items i j more more' is.left_names is.right_names)
    where
      by_order : (o : Ordering) → o ≢ Equal → (p : Ordering) → o ≡ ordering_then o p
      by_order Less n p = refl
      by_order Equal n p = absurd (n refl)
      by_order Greater n p = refl

-- one of them has no item left
ended_first : (text : List ℕ) (end : ℕ) (more : List ℕ) → (byte_cmp [] (text ++ end ∷ more) ≡ Less) × (byte_cmp (text ++ end ∷ more) [] ≡ Greater)
ended_first [] end more = (refl, refl)
ended_first (b ∷ bs) end more = (refl, refl)

-- the items that are left as the code has them: the first of each, and those after it
module _ (a b : Restrictions) (left right : List (Bool × Bor (List ℕ))) (is : IsLeft a b (items_of left) (items_of right)) where
  pub left-none : (length left < 1) ⊎ (length right < 1) → nat_cmp (length left) (length right) ≡ byte_cmp (restrictions_text a) (restrictions_text b)
  left-none none = by_lists left right none ∙ sym is.same
    where
      by_lists : (left right : List (Bool × Bor (List ℕ))) → (length left < 1) ⊎ (length right < 1) → nat_cmp (length left) (length right) ≡ byte_cmp (ended_text (items_of left)) (ended_text (items_of right))
      by_lists [] [] none = refl
      by_lists [] (j ∷ more) none = less_none j more ∙ sym (ended_first (item_text (item_of j)) (end_before (items_of more)) (ended_text (items_of more))).0
      by_lists (i ∷ more) [] none = more_none i more ∙ sym (ended_first (item_text (item_of i)) (end_before (items_of more)) (ended_text (items_of more))).1
      by_lists (i ∷ more) (j ∷ more') (inl e) = absurd (omega (arith, e))
      by_lists (i ∷ more) (j ∷ more') (inr e) = absurd (omega (arith, e))

  module _ (d : Bool × Bor (List ℕ)) (some : 1 ≤ length left) (some' : 1 ≤ length right) where
    cut : (items : List (Bool × Bor (List ℕ))) → 1 ≤ length items → items_of items ≡ item_of (get_or items 0 d) ∷ items_of (take (length items - 1) (drop 1 items))
    cut [] some = absurd (omega (arith, some))
    cut (i ∷ items) some = ap (λ more. item_of i ∷ items_of more) (sym (ap (λ n. take n items) (omega arith) ∙ take-length items))

    split : IsLeft a b (item_of (get_or left 0 d) ∷ items_of (take (length left - 1) (drop 1 left))) (item_of (get_or right 0 d) ∷ items_of (take (length right - 1) (drop 1 right)))
    split = subst (λ l. IsLeft a b l (item_of (get_or right 0 d) ∷ items_of (take (length right - 1) (drop 1 right)))) (cut left some) (subst (IsLeft a b (items_of left)) (cut right some') is)

    pub cut-more : (t u : ℕ) (o : Ordering) → t ≡ end_before (items_of (take (length left - 1) (drop 1 left))) → u ≡ end_before (items_of (take (length right - 1) (drop 1 right))) → o ≡ byte_cmp (item_text (item_of (get_or left 0 d)) ++ t ∷ []) (item_text (item_of (get_or right 0 d)) ++ u ∷ []) → is_ne o ≡ false → IsLeft a b (items_of (take (length left - 1) (drop 1 left))) (items_of (take (length right - 1) (drop 1 right)))
    cut-more t u o is_t is_u is_o equal = left-more a b _ _ _ _ split (sym (rw (is_t, is_u) at is_o) ∙ equal_is o equal)
      where
        equal_is : (o : Ordering) → is_ne o ≡ false → o ≡ Equal
        equal_is Less e = absurd cc
        equal_is Equal e = refl
        equal_is Greater e = absurd cc

    pub cut-decided : (t u : ℕ) (o : Ordering) → t ≡ end_before (items_of (take (length left - 1) (drop 1 left))) → u ≡ end_before (items_of (take (length right - 1) (drop 1 right))) → o ≡ byte_cmp (item_text (item_of (get_or left 0 d)) ++ t ∷ []) (item_text (item_of (get_or right 0 d)) ++ u ∷ []) → is_ne o ≡ true → o ≡ byte_cmp (restrictions_text a) (restrictions_text b)
    cut-decided t u o is_t is_u is_o differ = left-decided a b _ _ _ _ split o (rw (is_t, is_u) at is_o) (unequal_is o differ)
      where
        unequal_is : (o : Ordering) → is_ne o ≡ true → o ≢ Equal
        unequal_is Less e = λ is. cc
        unequal_is Equal e = absurd cc
        unequal_is Greater e = λ is. cc

-- a name with `!` before it, compared from the other side
pub turned : (name : List ℕ) (t : ℕ) (other : List ℕ) (u : ℕ) → ordering_reverse (byte_cmp (33 ∷ (name ++ t ∷ [])) (other ++ u ∷ [])) ≡ byte_cmp (other ++ u ∷ []) (33 ∷ (name ++ t ∷ []))
turned name t other u = sym (nat_list_cmp_total.antisymm (other ++ u ∷ []) (33 ∷ (name ++ t ∷ [])))

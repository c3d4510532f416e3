-- Fields that are sorted by the canonical spellings of their names: what they mean is they themselves, in that order.
use Rattle.deb_control.proofs.Common.{◌≡◌, ℕ, suc, ◌<◌, Bool, false, List, [], ◌∷◌, ◌++◌, length, map, get_or, Ordering, Less, Equal, Greater, is_eq, add-one, refl, sym, ap, ◌∙◌, subst, append-nil, append_assoc, arith, or_parts, both_ways, nat_list_cmp_total, sorted_far, ranks_by, is_eq-slice_cmp, bytes_eq-Decides, AllByRecursion, IsSortedBy, is_lt, ordering_reverse, folded, canonical_name, folded-from_canonical_name, Field, has_name, AreDistinct, byte_order, Entries, entries_after, entries_of, name_before}
use Rattle.std.proofs.Common.{bytes_eq}
use Rattle.deb_control.proofs.Entries.{IsAscending}
use Rattle.deb_control.proofs.ParagraphText.{insert_last, AllAbove, AllAbove-push, AllAbove-nil}

-- a field's body under the canonical spelling of its name
abbrev pub entry_of : Field → List ℕ × List ℕ
entry_of field = (canonical_name field.name, field.body)

-- fields in ascending order are put after one another
entries_after-ascending : (before : Entries) (fields : List Field) → IsAscending (map entry_of fields) → AllAbove before (map entry_of fields) → entries_after before fields ≡ before ++ map entry_of fields
entries_after-ascending before [] ascending above = sym (append-nil before)
entries_after-ascending before (field ∷ fields) ascending above =
    ap (λ entries. entries_after entries fields) (insert_last before (canonical_name field.name) field.body above.0)
    ∙ entries_after-ascending (before ++ entry_of field ∷ []) fields ascending.1 (AllAbove-push before (entry_of field) (map entry_of fields) above.1 ascending.0)
    ∙ append_assoc before (entry_of field ∷ []) (map entry_of fields)

pub entries_of-ascending : (fields : List Field) → IsAscending (map entry_of fields) → entries_of fields ≡ map entry_of fields
entries_of-ascending fields ascending = entries_after-ascending [] fields ascending (AllAbove-nil (map entry_of fields))

-- neither before nor the same is after
before_from_not : (a b : List ℕ) (o : Ordering) → byte_order a b ≡ o → is_lt (byte_order b a) ≡ false → (a ≡ b → ⊥) → byte_order a b ≡ Less
before_from_not a b Less e not_below apart = e
before_from_not a b Equal e not_below apart = absurd (apart ((bytes_eq-Decides a b).0 (sym (is_eq-slice_cmp a b) ∙ ap is_eq e)))
before_from_not a b Greater e not_below apart =
    let less : byte_order b a ≡ Less = nat_list_cmp_total.antisymm b a ∙ ap ordering_reverse e in
    absurd (both_ways (is_lt (byte_order b a)) not_below (ap is_lt less))

module _ {X : Type 0} (field_in : X → Field) where
  -- one comes before another by the name
  abbrev pub below : X → X → Bool
  below x y = name_before (field_in x).name (field_in y).name

  first_least : (x : X) (xs : List X) → ((j : ℕ) (d : X) → j < length xs → below (get_or xs j d) x ≡ false) → AllByRecursion (λ y. below y x ≡ false) xs
  first_least x [] h = tt
  first_least x (y ∷ ys) h = (h 0 y (omega arith), first_least x ys (λ j d within. h (suc j) d (omega (arith, within))))

  sorted_tail : (x : X) (xs : List X) → IsSortedBy below (x ∷ xs) → IsSortedBy below xs
  sorted_tail x xs up k d low within =
      subst (λ n. below (get_or xs n d) (get_or xs k d) ≡ false) (sym (add-one k))
      (subst (λ n. below (get_or (x ∷ xs) n d) (get_or xs k d) ≡ false) (add-one (suc k)) (up (suc k) d (omega arith) (omega (arith, within))))

  all_behind : (x : X) (xs : List X) → has_name (field_in x).name (map field_in xs) ≡ false → AllByRecursion (λ y. below y x ≡ false) xs → AllByRecursion (λ other. byte_order (canonical_name (field_in x).name) other.0 ≡ Less) (map entry_of (map field_in xs))
  all_behind x [] none h = tt
  all_behind x (y ∷ ys) none h =
      let name = (field_in x).name in
      let other = (field_in y).name in
      let p = or_parts (bytes_eq (folded other) (folded name)) (has_name name (map field_in ys)) none in
      let apart : canonical_name name ≡ canonical_name other → ⊥ =
      λ same. both_ways (bytes_eq (folded other) (folded name)) p.0 ((bytes_eq-Decides (folded other) (folded name)).1 (sym (folded-from_canonical_name name other same))) in
      (before_from_not (canonical_name name) (canonical_name other) (byte_order (canonical_name name) (canonical_name other)) refl h.0 apart, all_behind x ys p.1 h.1)

  pub ascending_from_sorted : (xs : List X) → IsSortedBy below xs → AreDistinct (map field_in xs) → IsAscending (map entry_of (map field_in xs))
  ascending_from_sorted [] up d = tt
  ascending_from_sorted (x ∷ xs) up d =
      let order = ranks_by nat_list_cmp_total (λ y. canonical_name (field_in y).name) in
      let least = first_least x xs (λ j e within. sorted_far below order (x ∷ xs) up 0 (suc j) e (omega arith) (omega (arith, within))) in
      (all_behind x xs d.0 least, ascending_from_sorted xs (sorted_tail x xs up) d.1)

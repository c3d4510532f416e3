-- A value among those of sorted fields, by a name without case.
use Rattle.deb_control.proofs.Common.{◌≡◌, ℕ, ◌+◌, ◌<◌, true, false, Some, List, ◌∷◌, length, drop, get_or, add-one, refl, sym, ap, ◌∙◌, drop-cons, false_from_ne_true, is_eq-slice_cmp, bytes_eq-Decides, find, eq_by_cmp, folded, canonical_name, canonical_name-from_folded, folded-from_canonical_name, byte_order, value_meaning, values_in, TypedField}

behind : (items : List TypedField) (i : ℕ) (d : TypedField) → i < length items → drop i items ≡ get_or items i d ∷ drop (i + 1) items
behind items i d within = drop-cons items i d within ∙ ap (λ n. get_or items i d ∷ drop n items) (sym (add-one i))

is_same : (a b : List ℕ) → folded b ≡ folded a → eq_by_cmp byte_order (canonical_name a) (canonical_name b) ≡ true
is_same a b same = is_eq-slice_cmp (canonical_name a) (canonical_name b) ∙ (bytes_eq-Decides (canonical_name a) (canonical_name b)).1 (canonical_name-from_folded a b (sym same))

is_other : (a b : List ℕ) → (folded b ≡ folded a → ⊥) → eq_by_cmp byte_order (canonical_name a) (canonical_name b) ≡ false
is_other a b other =
    false_from_ne_true (eq_by_cmp byte_order (canonical_name a) (canonical_name b)) (λ e.
    other (sym (folded-from_canonical_name a b ((bytes_eq-Decides (canonical_name a) (canonical_name b)).0 (sym (is_eq-slice_cmp (canonical_name a) (canonical_name b)) ∙ e)))))

-- the field at an index has the name
pub value-found : (name : List ℕ) (items : List TypedField) (i : ℕ) (d : TypedField) → i < length items → folded (get_or items i d).raw.name.now ≡ folded name → find byte_order (canonical_name name) (values_in (drop i items)) ≡ Some (value_meaning (get_or items i d).value)
value-found name items i d within same =
    ap (λ m. find byte_order (canonical_name name) (values_in m)) (behind items i d within)
    ∙ rw (is_same name (get_or items i d).raw.name.now same) refl

-- it has another
pub value-passed : (name : List ℕ) (items : List TypedField) (i : ℕ) (d : TypedField) → i < length items → (folded (get_or items i d).raw.name.now ≡ folded name → ⊥) → find byte_order (canonical_name name) (values_in (drop i items)) ≡ find byte_order (canonical_name name) (values_in (drop (i + 1) items))
value-passed name items i d within other =
    ap (λ m. find byte_order (canonical_name name) (values_in m)) (behind items i d within)
    ∙ rw (is_other name (get_or items i d).raw.name.now other) refl

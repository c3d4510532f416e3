-- Fields with distinct names: in another order, one more, and with other bodies.
use Rattle.deb_syntax.proofs.Common.{◌≡◌, ℕ, Bool, false, ◌||◌, List, [], ◌∷◌, ◌++◌, map, refl, sym, ap, ◌∙◌, IsPermutation, or_parts, or_from, list_any-append, IsPermutation-sym, IsPermutation-to_front, IsPermutation-middle, IsDistinct-IsPermutation, nat_list_eq_equiv, AllByRecursion, bytes_eq, folded, Line, Field, has_name, AreDistinct, ended, continued}
use Rattle.std.specs.List.{IsDistinct}
use Rattle.deb_syntax.proofs.Slices.{list_any-map}

abbrev same_field : Field → Field → Bool
same_field f g = bytes_eq (folded g.name) (folded f.name)

none-from_any : (field : Field) (fields : List Field) → has_name field.name fields ≡ false → AllByRecursion (λ g. same_field field g ≡ false) fields
none-from_any field [] h = tt
none-from_any field (f ∷ fields) h = let p = or_parts (same_field field f) (has_name field.name fields) h in (p.0, none-from_any field fields p.1)

any-from_none : (field : Field) (fields : List Field) → AllByRecursion (λ g. same_field field g ≡ false) fields → has_name field.name fields ≡ false
any-from_none field [] h = refl
any-from_none field (f ∷ fields) h = or_from (same_field field f) (has_name field.name fields) h.0 (any-from_none field fields h.1)

distinct-to : (fields : List Field) → AreDistinct fields → IsDistinct same_field fields
unfolding IsDistinct
distinct-to [] d = tt
distinct-to (f ∷ fields) d = (none-from_any f fields d.0, distinct-to fields d.1)

distinct-from : (fields : List Field) → IsDistinct same_field fields → AreDistinct fields
unfolding IsDistinct
distinct-from [] d = tt
distinct-from (f ∷ fields) d = (any-from_none f fields d.0, distinct-from fields d.1)

-- distinct fields stay so in another order
pub distinct-permutation : (fields others : List Field) → IsPermutation fields others → AreDistinct fields → AreDistinct others
distinct-permutation fields others p d = distinct-from others (IsDistinct-IsPermutation same_field (λ f g. nat_list_eq_equiv.symm (folded g.name) (folded f.name)) fields others p (distinct-to fields d))

-- one field more
pub distinct-push : (fields : List Field) (field : Field) → AreDistinct fields → has_name field.name fields ≡ false → AreDistinct (fields ++ field ∷ [])
distinct-push fields field d new = distinct-permutation (field ∷ fields) (fields ++ field ∷ []) (IsPermutation-sym _ _ (IsPermutation-to_front fields field)) (new, d)

-- none has the name of one before it
pub has_name-distinct : (before : List Field) (field : Field) (after : List Field) → AreDistinct (before ++ field ∷ after) → has_name field.name before ≡ false
has_name-distinct before field after d =
    let others = (distinct-permutation (before ++ field ∷ after) (field ∷ (before ++ after)) (IsPermutation-middle before field after) d).0 in
    (or_parts _ (has_name field.name after) (sym (list_any-append (λ g. bytes_eq (folded g.name) (folded field.name)) before after) ∙ others)).0

pub has_name-ended : (name : List ℕ) (fields : List Field) → has_name name (map ended fields) ≡ has_name name fields
has_name-ended name fields = list_any-map (λ f. bytes_eq (folded f.name) (folded name)) ended fields

pub distinct-ended : (fields : List Field) → AreDistinct fields → AreDistinct (map ended fields)
distinct-ended [] d = tt
distinct-ended (f ∷ fields) d = (has_name-ended f.name fields ∙ d.0, distinct-ended fields d.1)

has_name-continued : (name : List ℕ) (fields : List Field) (line : Line) → has_name name (continued fields line) ≡ has_name name fields
has_name-continued name [] line = refl
has_name-continued name (f ∷ []) line = refl
has_name-continued name (f ∷ g ∷ fields) line = ap (λ t. bytes_eq (folded f.name) (folded name) || t) (has_name-continued name (g ∷ fields) line)

pub distinct-continued : (fields : List Field) (line : Line) → AreDistinct fields → AreDistinct (continued fields line)
distinct-continued [] line d = d
distinct-continued (f ∷ []) line d = d
distinct-continued (f ∷ g ∷ fields) line d = (has_name-continued f.name (g ∷ fields) line ∙ d.0, distinct-continued (g ∷ fields) line d.1)

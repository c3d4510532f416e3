-- The fields of a paragraph in the order of their canonical names: how they are put in order, and what their texts are together.
use Rattle.deb_control.proofs.Common.{◌≡◌, ℕ, zero, suc, ◌+◌, ◌<◌, ◌||◌, Bool, true, false, List, [], ◌∷◌, ◌++◌, length, map, take, drop, get_or, Option, None, Some, IsSome, Less, refl, sym, ap, ◌∙◌, subst, arith, false≢true, bytes_eq-Decides, bytes_eq, flat_map, IsPermutation, All-from_recursion, All-permutation, recursion_from_All, AllByRecursion, IsSortedBy, folded, canonical_name, folded-from_canonical_name, Field, has_name, AreDistinct, byte_order, Refusal, distinct-permutation, entries_of-permutation, paragraph_text, canonical_entries, canonical_field, refusal_or, value_refusal_of, Rules, AreKeysOf, AreRows, ArePlaced, IsGood, IsOrderOf, NamesAscend, comes_first, known_names, no_field, numbers_in, picked, text_under}
use Rattle.std.proofs.Common.{set}
use Rattle.std.proofs.lemmas.List.{take-append-drop, take_all, length-take-le}
use Rattle.std.proofs.lemmas.List.Sorted.{IsPermutation-cons, IsPermutation-map, IsPermutation-middle, IsPermutation-refl, IsPermutation-sym, IsPermutation-to_front, IsPermutation-trans}
use Rattle.std.proofs.Math.Seq.{drop-cons, take-append-add}
use Rattle.deb_base.specs.Kinds.{known_fields, known_row, row_count}
use Rattle.deb_syntax.proofs.DistinctNames.{has_name-distinct}
use Rattle.deb_control.proofs.Entries.{IsAscending}
use Rattle.deb_control.specs.declared.canon_text.SortKey.{SortKey}
use Rattle.deb_control.proofs.FieldValues.{each-from_none}
use Rattle.deb_control.proofs.KnownNames.{Ascend, known_names-ascend, known_names-row}
use Rattle.deb_control.proofs.SortedFields.{ascending_from_sorted, entries_of-ascending, entry_of}

-- the fields of a paragraph with other bodies
has_name-canonical : (rules : Rules) (name : List ℕ) (fields : List Field) → has_name name (map (canonical_field rules) fields) ≡ has_name name fields
has_name-canonical rules name [] = refl
has_name-canonical rules name (field ∷ fields) = ap (λ t. bytes_eq (folded field.name) (folded name) || t) (has_name-canonical rules name fields)

distinct-canonical : (rules : Rules) (fields : List Field) → AreDistinct fields → AreDistinct (map (canonical_field rules) fields)
distinct-canonical rules [] distinct = tt
distinct-canonical rules (field ∷ fields) distinct = (has_name-canonical rules field.name fields ∙ distinct.0, distinct-canonical rules fields distinct.1)

below-canonical : (rules : Rules) (name : List ℕ) (fields : List Field) → AllByRecursion (λ other. byte_order name (canonical_name other.name) ≡ Less) fields → AllByRecursion (λ entry. byte_order name entry.0 ≡ Less) (map entry_of (map (canonical_field rules) fields))
below-canonical rules name [] below = tt
below-canonical rules name (field ∷ fields) below = (below.0, below-canonical rules name fields below.1)

ascending-canonical : (rules : Rules) (fields : List Field) → NamesAscend fields → IsAscending (map entry_of (map (canonical_field rules) fields))
ascending-canonical rules [] ascend = tt
ascending-canonical rules (field ∷ fields) ascend = (below-canonical rules (canonical_name field.name) fields ascend.0, ascending-canonical rules fields ascend.1)

texts-canonical : (rules : Rules) (fields : List Field) → paragraph_text (map entry_of (map (canonical_field rules) fields)) ≡ flat_map (text_under rules) fields
texts-canonical rules [] = refl
texts-canonical rules (field ∷ fields) = ap (λ m. text_under rules field ++ m) (texts-canonical rules fields)

-- each is good exactly if none is refused
none-from_each : (rules : Rules) (fields : List Field) → AllByRecursion (IsGood rules) fields → value_refusal_of rules fields ≡ None
none-from_each rules [] good = refl
none-from_each rules (field ∷ fields) good = ap (λ o. refusal_or o field.line (value_refusal_of rules fields)) good.0 ∙ none-from_each rules fields good.1

module _ (rules : Rules) (fields : List Field) (order : List ℕ) (is : IsOrderOf fields order) where
  -- their texts are the canonical text of the paragraph
  pub text-ordered : AreDistinct fields → flat_map (text_under rules) (picked fields order) ≡ paragraph_text (canonical_entries rules fields)
  text-ordered distinct =
      let chosen = picked fields order in
      let canonical = canonical_field rules in
      sym (texts-canonical rules chosen)
      ∙ ap paragraph_text
      (sym (entries_of-ascending (map canonical chosen) (ascending-canonical rules chosen is.ascend))
      ∙ sym (entries_of-permutation (map canonical fields) (map canonical chosen) (IsPermutation-map canonical fields chosen is.all) (distinct-canonical rules fields distinct)))

  pub good-ordered : AllByRecursion (IsGood rules) (picked fields order) → value_refusal_of rules fields ≡ None
  good-ordered good =
      none-from_each rules fields
      (recursion_from_All (IsGood rules) fields (All-permutation (IsGood rules) (picked fields order) fields (IsPermutation-sym fields (picked fields order) is.all) (All-from_recursion (IsGood rules) (picked fields order) good)))

  pub refused-ordered : (AllByRecursion (IsGood rules) (picked fields order) → ⊥) → IsSome (value_refusal_of rules fields)
  refused-ordered not_good = go (value_refusal_of rules fields) refl
    where
      go : (o : Option Refusal) → value_refusal_of rules fields ≡ o → IsSome o
      go None e =
          absurd (not_good
          (recursion_from_All (IsGood rules) (picked fields order) (All-permutation (IsGood rules) fields (picked fields order) is.all (All-from_recursion (IsGood rules) fields (each-from_none rules fields e)))))
      go (Some refusal) e = refl

-- ---- fields in the rows of the table

rows-none : (fields : List Field) (names : List (List ℕ)) → AreRows fields names (map (λ _. 0) names)
rows-none fields [] = tt
rows-none fields (name ∷ names) = (tt, rows-none fields names)

pub placed-none : (fields : List Field) → ArePlaced fields 0 (map (λ _. 0) known_fields)
placed-none fields = record { named = rows-none fields known_names; all = IsPermutation-refl [] }

pub rows-length : (fields : List Field) (names : List (List ℕ)) (rows : List ℕ) → AreRows fields names rows → length rows ≡ length names
rows-length fields [] [] are = refl
rows-length fields [] (row ∷ rows) are = absurd are
rows-length fields (name ∷ names) [] are = absurd are
rows-length fields (name ∷ names) (row ∷ rows) are = ap suc (rows-length fields names rows are.1)

within-rows : (fields : List Field) (names : List (List ℕ)) (rows : List ℕ) → AreRows fields names rows → AllByRecursion (λ k. k < length fields) (numbers_in rows)
within-rows fields [] [] are = tt
within-rows fields [] (row ∷ rows) are = absurd are
within-rows fields (name ∷ names) [] are = absurd are
within-rows fields (name ∷ names) (zero ∷ rows) are = within-rows fields names rows are.1
within-rows fields (name ∷ names) (suc k ∷ rows) are = (are.0.0, within-rows fields names rows are.1)

below-rows : (fields : List Field) (first : List ℕ) (names : List (List ℕ)) (rows : List ℕ) → AllByRecursion (λ other. byte_order first other ≡ Less) names → AreRows fields names rows → AllByRecursion (λ other. byte_order first (canonical_name other.name) ≡ Less) (picked fields (numbers_in rows))
below-rows fields first [] [] below are = tt
below-rows fields first [] (row ∷ rows) below are = absurd are
below-rows fields first (name ∷ names) [] below are = absurd are
below-rows fields first (name ∷ names) (zero ∷ rows) below are = below-rows fields first names rows below.1 are.1
below-rows fields first (name ∷ names) (suc k ∷ rows) below are = (subst (λ n. byte_order first n ≡ Less) (sym are.0.1) below.0, below-rows fields first names rows below.1 are.1)

ascend-rows : (fields : List Field) (names : List (List ℕ)) (rows : List ℕ) → Ascend names → AreRows fields names rows → NamesAscend (picked fields (numbers_in rows))
ascend-rows fields [] [] up are = tt
ascend-rows fields [] (row ∷ rows) up are = absurd are
ascend-rows fields (name ∷ names) [] up are = absurd are
ascend-rows fields (name ∷ names) (zero ∷ rows) up are = ascend-rows fields names rows up.1 are.1
ascend-rows fields (name ∷ names) (suc k ∷ rows) up are =
    (subst (λ n. AllByRecursion (λ other. byte_order n (canonical_name other.name) ≡ Less) (picked fields (numbers_in rows))) (sym are.0.1) (below-rows fields name names rows up.0 are.1), ascend-rows fields names rows up.1 are.1)

pub order-placed : (fields : List Field) (rows : List ℕ) → ArePlaced fields (length fields) rows → IsOrderOf fields (numbers_in rows)
order-placed fields rows placed = record {
  within = within-rows fields known_names rows placed.named;
  all = subst (λ all. IsPermutation all (picked fields (numbers_in rows))) (take_all (length fields) fields (omega arith)) placed.all;
  ascend = ascend-rows fields known_names rows known_names-ascend placed.named;
}

-- none of the fields has the name of this one
abbrev Apart : Field → List Field → Type 0
Apart field others = AllByRecursion (λ other. bytes_eq (folded other.name) (folded field.name) ≡ false) others

apart-from_has_name : (field : Field) (others : List Field) → has_name field.name others ≡ false → Apart field others
apart-from_has_name field [] none = tt
apart-from_has_name field (other ∷ others) none = go (bytes_eq (folded other.name) (folded field.name)) refl none (apart-from_has_name field others)
  where
    go : (t : Bool) → bytes_eq (folded other.name) (folded field.name) ≡ t → (t || has_name field.name others) ≡ false → (has_name field.name others ≡ false → Apart field others) → (bytes_eq (folded other.name) (folded field.name) ≡ false) × Apart field others
    go true e h rest = absurd (false≢true (sym h))
    go false e h rest = (e, rest h)

module _ (fields : List Field) (i : ℕ) (within : i < length fields) where
  abbrev placing : Field
  placing = get_or fields i no_field

  -- the field is put into the row of its name, which has none yet
  rows-set : (names : List (List ℕ)) (rows : List ℕ) (row : ℕ) → AreRows fields names rows → row < length names → get_or names row [] ≡ canonical_name placing.name → Apart placing (picked fields (numbers_in rows)) → AreRows fields names (set rows row (suc i)) × IsPermutation (placing ∷ picked fields (numbers_in rows)) (picked fields (numbers_in (set rows row (suc i))))
  rows-set [] rows row are low name apart = absurd (omega (arith, low))
  rows-set (n ∷ names) [] row are low name apart = absurd are
  rows-set (n ∷ names) (zero ∷ rows) zero are low name apart = (((within, sym name), are.1), IsPermutation-refl (placing ∷ picked fields (numbers_in rows)))
  rows-set (n ∷ names) (suc k ∷ rows) zero are low name apart =
      let other = get_or fields k no_field in
      let same : folded other.name ≡ folded placing.name = folded-from_canonical_name other.name placing.name (are.0.1 ∙ name) in
      absurd (false≢true (sym apart.0 ∙ (bytes_eq-Decides (folded other.name) (folded placing.name)).1 same))
  rows-set (n ∷ names) (zero ∷ rows) (suc row) are low name apart =
      let rest = rows-set names rows row are.1 (omega (arith, low)) name apart in
      ((tt, rest.0), rest.1)
  rows-set (n ∷ names) (suc k ∷ rows) (suc row) are low name apart =
      let rest = rows-set names rows row are.1 (omega (arith, low)) name apart.1 in
      let other = get_or fields k no_field in
      let others = picked fields (numbers_in rows) in (
        (are.0, rest.0),
        IsPermutation-trans (placing ∷ other ∷ others) (other ∷ placing ∷ others) (other ∷ picked fields (numbers_in (set rows row (suc i))))
            (IsPermutation-sym (other ∷ placing ∷ others) (placing ∷ other ∷ others) (IsPermutation-middle (other ∷ []) placing others))
            (IsPermutation-cons other (placing ∷ others) (picked fields (numbers_in (set rows row (suc i)))) rest.1),
      )

  -- the fields before it, it, and those after it
  split-at : fields ≡ take i fields ++ placing ∷ drop (suc i) fields
  split-at = sym (take-append-drop i fields) ∙ ap (λ m. take i fields ++ m) (drop-cons fields i no_field within)

  take-next : take (i + 1) fields ≡ take i fields ++ placing ∷ []
  take-next =
      let len : length (take i fields) ≡ i = length-take-le i fields (omega (arith, within)) in
      ap (take (i + 1)) split-at
      ∙ ap (λ n. take (n + 1) (take i fields ++ placing ∷ drop (suc i) fields)) (sym len)
      ∙ take-append-add (take i fields) (placing ∷ drop (suc i) fields) 1

  pub placed-next : (rows : List ℕ) (row : ℕ) → AreDistinct fields → row ≡ known_row placing.name → row < length rows → ArePlaced fields i rows → ArePlaced fields (i + 1) (set rows row (i + 1))
  placed-next rows row distinct is low placed =
      let long = rows-length fields known_names rows placed.named in
      let known : known_row placing.name < row_count = omega (arith, is, low, long) in
      let before = take i fields in
      let chosen = picked fields (numbers_in rows) in
      let none : Apart placing before = apart-from_has_name placing before (has_name-distinct before placing (drop (suc i) fields) (subst AreDistinct split-at distinct)) in
      let P : Field → Type 0 = λ other. bytes_eq (folded other.name) (folded placing.name) ≡ false in
      let apart : Apart placing chosen = recursion_from_All P chosen (All-permutation P before chosen placed.all (All-from_recursion P before none)) in
      let done = rows-set known_names rows row placed.named (omega (arith, low, long)) (ap (λ r. get_or known_names r []) is ∙ known_names-row placing.name [] known) apart in
      let after = picked fields (numbers_in (set rows row (suc i))) in
      subst (λ n. ArePlaced fields (i + 1) (set rows row n)) (omega arith)
      (record {
        named = done.0;
        all =
            subst (λ all. IsPermutation all after) (sym take-next)
            (IsPermutation-trans (before ++ placing ∷ []) (placing ∷ before) after (IsPermutation-to_front before placing)
            (IsPermutation-trans (placing ∷ before) (placing ∷ chosen) after (IsPermutation-cons placing before chosen placed.all) done.1));
      })

-- ---- fields that are sorted by their names

names-below : (name : List ℕ) (fields : List Field) → AllByRecursion (λ entry. byte_order name entry.0 ≡ Less) (map entry_of fields) → AllByRecursion (λ other. byte_order name (canonical_name other.name) ≡ Less) fields
names-below name [] below = tt
names-below name (field ∷ fields) below = (below.0, names-below name fields below.1)

names-ascend : (fields : List Field) → IsAscending (map entry_of fields) → NamesAscend fields
names-ascend [] up = tt
names-ascend (field ∷ fields) up = (names-below (canonical_name field.name) fields up.0, names-ascend fields up.1)

picked-numbers : (fields : List Field) (keys : List SortKey) → picked fields (map (λ key. key.number) keys) ≡ map (λ key. get_or fields key.number no_field) keys
picked-numbers fields [] = refl
picked-numbers fields (key ∷ keys) = ap (λ m. get_or fields key.number no_field ∷ m) (picked-numbers fields keys)

within-numbers : (fields : List Field) (keys : List SortKey) → AllByRecursion (λ key. key.number < length fields) keys → AllByRecursion (λ k. k < length fields) (map (λ key. key.number) keys)
within-numbers fields [] are = tt
within-numbers fields (key ∷ keys) are = (are.0, within-numbers fields keys are.1)

pub order-sorted : (fields : List Field) (was now : List SortKey) → AreDistinct fields → AreKeysOf fields was → IsPermutation was now → IsSortedBy (comes_first fields) now → IsOrderOf fields (map (λ key. key.number) now)
order-sorted fields was now distinct list moved sorted =
    let at : SortKey → Field = λ key. get_or fields key.number no_field in
    let all : IsPermutation fields (map at now) = subst (λ m. IsPermutation m (map at now)) list.all (IsPermutation-map at was now moved) in
    let P : SortKey → Type 0 = λ key. key.number < length fields in
    let same = sym (picked-numbers fields now) in
    record {
      within = within-numbers fields now (recursion_from_All P now (All-permutation P was now moved (All-from_recursion P was list.within)));
      all = subst (IsPermutation fields) same all;
      ascend = subst NamesAscend same (names-ascend (map at now) (ascending_from_sorted at now sorted (distinct-permutation fields (map at now) all distinct)));
    }

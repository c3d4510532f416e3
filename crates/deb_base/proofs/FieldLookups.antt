-- Look-ups in the table of fields.
use Rattle.std.proofs.Common.{[], ◌≡◌, ℕ, ◌+◌, ◌<◌, ◌≤◌, ◌==◌, Bool, true, false, List, length, map, get_or, refl, sym, ap, subst, ◌∙◌, arith}
use Rattle.std.proofs.lemmas.Bool.{eq-eqb, eqb-true, false_from_ne_true, true≢false}
use Rattle.std.proofs.lemmas.Bool.Decides.{Decides-eqb, not_from_Decides, same_from_decides}
use Rattle.std.proofs.lemmas.List.{get_or-map, get_or_past, length-map}
use Rattle.std.proofs.lemmas.List.FromFn.{get_or-range_with_len}
use Rattle.std.proofs.lemmas.List.Sums.{AllPass-from_list_all, passes_at_first, position_or_len_is}
use Rattle.std.proofs.lemmas.Slice.Eq.{bytes_eq-Decides}
use Rattle.std.specs.Bool.{Decides}
use Rattle.std.specs.List.{position_or_len}
use Rattle.std.specs.Str.{bytes_eq}
use Rattle.deb_base.specs.FieldNames.{is_name}
use Rattle.deb_base.specs.Names.{canonical_name, folded}
use Rattle.deb_base.specs.Kinds.{FieldRow, kind_at, known_fields, known_row, names_of_rows, row_count}
use Rattle.deb_base.specs.KnownFields.{filled, row_for, row_in}
use Rattle.deb_base.specs.declared.known_fields.Row.{Row}
use Rattle.deb_base.proofs.CanonicalNames.{canonical_name-from_folded, folded-canonical_name, length-capitalised}
use Rattle.deb_base.specs.declared.kind.Kind.TheVariants.{Text}

same_test : (a b : List ℕ) (t : Bool) → Decides t (folded a ≡ folded b) → bytes_eq (folded a) (folded b) ≡ t
same_test a b t decides = sym (same_from_decides _ _ decides (bytes_eq-Decides (folded a) (folded b)))

-- what fails up to i, and at i
pub fails_more : (f : ℕ → Bool) (i : ℕ) → ((k : ℕ) → k < i → f k ≡ false) → f i ≡ false → (k : ℕ) → k < i + 1 → f k ≡ false
fails_more f i before here k within = go (k == i) refl
  where
    go : (t : Bool) → (k == i) ≡ t → f k ≡ false
    go true is = ap f (eqb-true k i is) ∙ here
    go false is = before k (omega (arith, within, not_from_Decides (k == i) (Decides-eqb k i) is))

-- the code's table has what the definitions' rows have
module _ (table : List Row) (is : map row_in table ≡ map row_for known_fields) where
  pub length_of_table : length table ≡ row_count
  length_of_table = sym (length-map table row_in) ∙ ap length is

  pub kind_at-no_row : (i : ℕ) → length table ≤ i → Text ≡ kind_at i
  unfolding kind_at
  kind_at-no_row i behind = sym (get_or_past (map (λ row. row.1) known_fields) i Text (subst (λ n. n ≤ i) length_of_table behind))

  module _ (i : ℕ) (d : Row) where
    module _ (within : i < length table) (e : FieldRow) where
      pub inside : i < row_count
      inside = subst (λ n. i < n) length_of_table within

      row_of_table : row_in (get_or table i d) ≡ row_for (get_or known_fields i e)
      row_of_table =
          sym (get_or-map row_in table i d (row_in d) within)
          ∙ ap (λ rows. get_or rows i (row_in d)) is
          ∙ get_or-map row_for known_fields i e (row_in d) inside

      pub filled_of_table : (get_or table i d).filled ≡ filled (get_or known_fields i e)
      filled_of_table = ap (λ row. row.0) row_of_table

      pub canonical_of_table : (get_or table i d).canonical.now ≡ canonical_name (get_or known_fields i e).0
      canonical_of_table = ap (λ row. row.1.0) row_of_table

      pub length_of_canonical : length (get_or table i d).canonical.now ≡ length (get_or known_fields i e).0
      length_of_canonical = ap length canonical_of_table ∙ length-capitalised true (get_or known_fields i e).0

      pub kind_of_table : (get_or table i d).kind ≡ (get_or known_fields i e).1
      kind_of_table = ap (λ row. row.1.1) row_of_table

      -- the code compares the canonical spelling
      same_canonical : (name : List ℕ) (t : Bool) → Decides t (folded (get_or table i d).canonical.now ≡ folded name) → bytes_eq (folded (get_or known_fields i e).0) (folded name) ≡ t
      same_canonical name t decides =
          ap (λ n. bytes_eq n (folded name)) (sym (ap folded canonical_of_table ∙ folded-canonical_name (get_or known_fields i e).0))
          ∙ same_test (get_or table i d).canonical.now name t decides

    pub kind_at-row : i < length table → (get_or table i d).kind ≡ kind_at i
    unfolding kind_at
    kind_at-row within =
        let e : FieldRow = ([], Text) in
        kind_of_table within e ∙ sym (get_or-map (λ row. row.1) known_fields i e Text (inside within e))

    -- a row has the name, and none before it
    pub known_row-found : (name : List ℕ) (e : FieldRow) → i < length table → ((k : ℕ) → k < i → bytes_eq (folded (get_or known_fields k e).0) (folded name) ≡ false) → Decides true (folded (get_or table i d).canonical.now ≡ folded name) → i ≡ known_row name
    unfolding known_row
    known_row-found name e within before decides =
        sym (position_or_len_is (λ row. bytes_eq (folded row.0) (folded name)) known_fields i e (omega (arith, within, length_of_table)) before
        (λ _. same_canonical within e name true decides))

    pub other_row : (name : List ℕ) (e : FieldRow) → i < length table → Decides false (folded (get_or table i d).canonical.now ≡ folded name) → bytes_eq (folded (get_or known_fields i e).0) (folded name) ≡ false
    other_row name e within decides = same_canonical within e name false decides

-- a row's name is in that row, and is one
module _ (i : ℕ) (e : FieldRow) (within : i < row_count) (name : List ℕ) (same : name ≡ (get_or known_fields i e).0) where
  pub known_row-row : i ≡ known_row name
  known_row-row =
      let here : get_or (map (λ row. known_row row.0) known_fields) i 0 ≡ known_row (get_or known_fields i e).0 = get_or-map (λ row. known_row row.0) known_fields i e 0 within in
      let count : i ≡ 0 + i = omega arith in
      count ∙ sym (get_or-range_with_len 0 row_count i 0 within) ∙ ap (λ l. get_or l i 0) (sym names_of_rows.1) ∙ here ∙ ap known_row (sym same)

  pub is_name-row : is_name name ≡ true
  is_name-row = ap is_name same ∙ AllPass-from_list_all (λ row. is_name row.0) known_fields names_of_rows.0 i e within

-- no row has the name
pub known_row-none : (name : List ℕ) (i : ℕ) (e : FieldRow) → i ≡ row_count → ((k : ℕ) → k < i → bytes_eq (folded (get_or known_fields k e).0) (folded name) ≡ false) → i ≡ known_row name
unfolding known_row
known_row-none name i e end before =
    sym (position_or_len_is (λ row. bytes_eq (folded row.0) (folded name)) known_fields i e (omega (arith, end)) before (λ lt. absurd (omega (arith, lt, end))))

-- the row goes by the name without case
known_row-same : (a b : List ℕ) → folded a ≡ folded b → known_row a ≡ known_row b
unfolding known_row
known_row-same a b same = ap (λ name. position_or_len (λ row. bytes_eq (folded row.0) name) known_fields) same

name_of_row : (a : List ℕ) (e : FieldRow) → known_row a < row_count → folded (get_or known_fields (known_row a) e).0 ≡ folded a
unfolding known_row
name_of_row a e within = (bytes_eq-Decides _ _).0 (passes_at_first (λ row. bytes_eq (folded row.0) (folded a)) known_fields e within)

-- the row of a name has its canonical spelling
pub canonical_name-row : (a : List ℕ) (e : FieldRow) → known_row a < row_count → canonical_name (get_or known_fields (known_row a) e).0 ≡ canonical_name a
canonical_name-row a e within = canonical_name-from_folded _ a (name_of_row a e within)

pub canonical_of_name : (table : List Row) (is : map row_in table ≡ map row_for known_fields) (i : ℕ) (d : Row) → i < length table → (name : List ℕ) → known_row name ≡ i → (get_or table i d).canonical.now ≡ canonical_name name
canonical_of_name table is i d within name own =
    let e : FieldRow = ([], Text) in
    canonical_of_table table is i d within e ∙ ap (λ n. canonical_name (get_or known_fields n e).0) (sym own)
    ∙ canonical_name-row name e (subst (λ n. n < row_count) (sym own) (inside table is i d within e))

-- a name is the same as one of the table exactly where both are in one row
pub same_rows : (a b : List ℕ) → known_row b < row_count → bytes_eq (folded a) (folded b) ≡ (known_row a == known_row b)
same_rows a b within = go (known_row a == known_row b) refl
  where
    go : (t : Bool) → (known_row a == known_row b) ≡ t → bytes_eq (folded a) (folded b) ≡ t
    go true is =
        let e : FieldRow = ([], Text) in
        let rows : known_row a ≡ known_row b = eqb-true _ _ is in
        let name = name_of_row a e (subst (λ n. n < row_count) (sym rows) within) in
        (bytes_eq-Decides _ _).1 (sym name ∙ ap (λ n. folded (get_or known_fields n e).0) rows ∙ name_of_row b e within)
    go false is = false_from_ne_true _ (λ same. true≢false (sym (eq-eqb _ _ (known_row-same a b ((bytes_eq-Decides _ _).0 same))) ∙ is))

-- a name that isn't in the table is no name of it
pub other_rows : (a b : List ℕ) → known_row a < row_count → row_count ≤ known_row b → bytes_eq (folded a) (folded b) ≡ false
other_rows a b within behind =
    false_from_ne_true _ (λ same. absurd (omega (arith, within, behind, known_row-same a b ((bytes_eq-Decides _ _).0 same))))

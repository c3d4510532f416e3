-- A search for a field by its name, one field after another.
use Rattle.deb_syntax.proofs.Common.{false_from_ne_true, ◌≡◌, ℕ, ◌+◌, ◌<◌, cond, List, length, drop, get_or, Some, ap, ◌∙◌, drop_more, bytes_eq-Decides, bytes_eq, folded, name_at, field_at, fields_at, field_named, has_field_in, lies_within, known_row, row_of, list_all, IsTrue, true, sym, eq-eqb, eqb-true, ◌==◌, ◌||◌, FieldSpan}
use Rattle.std.proofs.lemmas.List.Sums.{AllPass-from_list_all}
use Rattle.deb_syntax.proofs.FieldTests.{is_field-at}
use Rattle.deb_syntax.proofs.FieldSpanLemmas.{LiesWithin-from_test}

module _ (text name : List ℕ) (spans : List FieldSpan) (i : ℕ) (d : FieldSpan) (within : i < length spans) where
  step : field_named name (fields_at text (drop i spans)) ≡ cond (bytes_eq (folded (name_at text (get_or spans i d))) (folded name)) (Some (field_at text (get_or spans i d))) (field_named name (fields_at text (drop (i + 1) spans)))
  step = ap (λ l. field_named name (fields_at text l)) (drop_more spans i d within)

  pub field_named-found : folded (name_at text (get_or spans i d)) ≡ folded name → field_named name (fields_at text (drop i spans)) ≡ Some (field_at text (get_or spans i d))
  field_named-found same =
      step ∙ ap (λ t. cond t (Some (field_at text (get_or spans i d))) (field_named name (fields_at text (drop (i + 1) spans)))) ((bytes_eq-Decides (folded (name_at text (get_or spans i d))) (folded name)).1 same)

  pub field_named-passed : (folded (name_at text (get_or spans i d)) ≡ folded name → ⊥) → field_named name (fields_at text (drop i spans)) ≡ field_named name (fields_at text (drop (i + 1) spans))
  field_named-passed other =
      step ∙ ap (λ t. cond t (Some (field_at text (get_or spans i d))) (field_named name (fields_at text (drop (i + 1) spans)))) (false_from_ne_true _ (λ e. other ((bytes_eq-Decides (folded (name_at text (get_or spans i d))) (folded name)).0 e)))

-- a search for a row of the table
module _ (text : List ℕ) (row : ℕ) (spans : List FieldSpan) (i : ℕ) (d : FieldSpan) (within : i < length spans) (lie : IsTrue (list_all (lies_within text) spans)) where
  row_here : row_of (get_or spans i d).id ≡ known_row (name_at text (get_or spans i d))
  row_here = (LiesWithin-from_test text (get_or spans i d) (AllPass-from_list_all (lies_within text) spans lie i d within)).id

  row_step : has_field_in row (fields_at text (drop i spans)) ≡ ((row_of (get_or spans i d).id == row) || has_field_in row (fields_at text (drop (i + 1) spans)))
  row_step =
      ap (λ l. has_field_in row (fields_at text l)) (drop_more spans i d within)
      ∙ ap (λ n. (n == row) || has_field_in row (fields_at text (drop (i + 1) spans))) (sym row_here)

  pub has_field_in-found : row_of (get_or spans i d).id ≡ row → has_field_in row (fields_at text (drop i spans)) ≡ true
  has_field_in-found same = row_step ∙ ap (λ t. t || has_field_in row (fields_at text (drop (i + 1) spans))) (eq-eqb _ _ same)

  pub has_field_in-passed : (row_of (get_or spans i d).id ≡ row → ⊥) → has_field_in row (fields_at text (drop i spans)) ≡ has_field_in row (fields_at text (drop (i + 1) spans))
  has_field_in-passed other = row_step ∙ ap (λ t. t || has_field_in row (fields_at text (drop (i + 1) spans))) (false_from_ne_true _ (λ e. other (eqb-true _ _ e)))

pub ruleset having = (has_field_in-found, has_field_in-passed)

pub ruleset looking = (field_named-found, field_named-passed, is_field-at)

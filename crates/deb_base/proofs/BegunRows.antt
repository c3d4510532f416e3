-- Lines that begin with the name of a row of the table and a colon.
use Rattle.std.proofs.Common.{[], ◌∷◌, ◌++◌, ◌≡◌, ℕ, ◌+◌, ◌<◌, ◌==◌, ◌-◌, ◌≤◌, Bool, true, false, List, length, map, take, get_or, replicate, codes, refl, sym, ap, subst, ◌∙◌, arith}
use Rattle.std.proofs.Math.Seq.{get_or-append_seam, take-append_seam, take-append-add}
use Rattle.std.proofs.lemmas.Bool.{eqb-true, false_from_ne_true}
use Rattle.std.proofs.lemmas.Bool.Decides.{Decides-eqb, not_from_Decides}
use Rattle.std.proofs.lemmas.List.{get_or-take, length-append, length-take, length-take-le, take_more}
use Rattle.std.proofs.lemmas.List.Elements.{All-from_get_or}
use Rattle.std.proofs.lemmas.List.Folds.{list_any_at, list_any_none}
use Rattle.std.proofs.lemmas.Slice.Eq.{bytes_eq-Decides}
use Rattle.std.specs.Str.{bytes_eq}
use Rattle.deb_base.specs.Kinds.{FieldRow, known_fields, row_count}
use Rattle.deb_base.specs.KnownFields.{begins_with_known, begins_with_row, row_for, row_in, IsAtFront}
use Rattle.deb_base.specs.declared.kind.Kind.{Kind}
use Rattle.deb_base.specs.declared.kind.Kind.TheVariants.{Text}
use Rattle.deb_base.specs.declared.known_fields.Row.{Row}
use Rattle.deb_base.proofs.FieldLookups.{filled_of_table, inside, is_name-row, known_row-row, length_of_canonical}

-- the line begins with the name and a colon
pub record IsBegun (line name : List ℕ) : Type 0 where
  pub within : length name < length line
  pub colon : get_or line (length name) 0 ≡ 58
  pub same : take (length name) line ≡ name

module _ (line name : List ℕ) (kind : Kind) where
  begun : take (length name + 1) line ≡ name ++ 58 ∷ [] → IsBegun line name
  begun is = record {
    within = within;
    colon =
        sym (get_or-take (length name + 1) line (length name) 0 (omega arith))
        ∙ ap (λ bytes. get_or bytes (length name) 0) is ∙ get_or-append_seam name 58 [] 0;
    same =
        sym (take-append_seam (take (length name) line) (get_or line (length name) 0 ∷ []))
        ∙ ap (λ n. take n (take (length name) line ++ get_or line (length name) 0 ∷ [])) (length-take-le (length name) line (omega (arith, within)))
        ∙ ap (take (length name)) (sym (take_more line (length name) 0 within) ∙ is)
        ∙ take-append_seam name (58 ∷ []);
  }
    where
      within : length name < length line
      within = omega (arith, sym (length-take (length name + 1) line) ∙ ap length is ∙ length-append name (58 ∷ []))

  pub begun_parts : begins_with_row line (name, kind) ≡ true → IsBegun line name
  begun_parts is = begun ((bytes_eq-Decides _ _).0 is)

-- the name in a row begins the line
pub at_front-begun : (line : List ℕ) (row i len : ℕ) (e : FieldRow) → i ≡ row → i < row_count → len ≡ length (get_or known_fields i e).0 → IsBegun line (get_or known_fields i e).0 → IsAtFront line (record { id = record { 0 = row }; len = len })
at_front-begun line row i len e is_row within size is_begun =
    let same : take len line ≡ (get_or known_fields i e).0 = ap (λ n. take n line) size ∙ is_begun.same in
    record {
      within = omega (arith, size, is_begun.within);
      colon = ap (λ n. get_or line n 0) size ∙ is_begun.colon;
      name = is_name-row i e within (take len line) same;
      id = sym is_row ∙ known_row-row i e within (take len line) same;
    }

-- the code compares the front of the line with that of its row
module _ (table : List Row) (is : map row_in table ≡ map row_for known_fields) (i : ℕ) (d : Row) (within : i < length table) (line : List ℕ) where
  abbrev pub of : FieldRow
  of = get_or known_fields i ([], Text)

  size : length (get_or table i d).canonical.now ≡ length of.0
  size = length_of_canonical table is i d within ([], Text)

  pub row_starts : (needle : List ℕ) → length (get_or table i d).canonical.now < length line → needle ≡ take (length (get_or table i d).canonical.now + 1) line → bytes_eq needle (take (length needle) (get_or table i d).filled) ≡ begins_with_row line of
  row_starts needle shorter front =
      let own : needle ≡ take (length of.0 + 1) line = front ∙ ap (λ n. take (n + 1) line) size in
      let long : length needle ≡ length of.0 + 1 = ap length own ∙ length-take-le (length of.0 + 1) line (omega (arith, shorter, size)) in
      ap (λ n. bytes_eq needle (take n (get_or table i d).filled)) long
      ∙ ap (λ xs. bytes_eq needle (take (length of.0 + 1) xs)) (filled_of_table table is i d within ([], Text))
      ∙ ap (bytes_eq needle) (take-append-add of.0 (58 ∷ replicate (31 - length of.0) 45) 1)
      ∙ ap (λ xs. bytes_eq xs (of.0 ++ codes ":")) own

  pub row_starts_not : length line ≤ length (get_or table i d).canonical.now → begins_with_row line of ≡ false
  row_starts_not short = false_from_ne_true _ (λ starts. absurd (omega (arith, short, size, (begun_parts line of.0 of.1 starts).within)))

  pub row_begins : (row : ℕ) → i ≡ row → begins_with_row line of ≡ true → IsAtFront line (record { id = record { 0 = row }; len = length (get_or table i d).canonical.now })
  row_begins row is_row starts =
      at_front-begun line row i _ ([], Text) is_row (inside table is i d within ([], Text)) size (begun_parts line of.0 of.1 starts)

module _ (line : List ℕ) where
  abbrev pub starts : ℕ → Bool
  starts row = begins_with_row line (get_or known_fields row ([], Text))

  pub known : (row : ℕ) → row < row_count → starts row ≡ true → begins_with_known line ≡ true
  unfolding begins_with_known
  known row within is = list_any_at (begins_with_row line) known_fields row ([], Text) within is

  -- one row more, if there is one
  pub one_more : (row : ℕ) → ((k : ℕ) → k < row_count → k < row → starts k ≡ false) → (row < row_count → starts row ≡ false) → (k : ℕ) → k < row_count → k < row + 1 → starts k ≡ false
  one_more row before here k small within = go (k == row) refl
    where
      go : (t : Bool) → (k == row) ≡ t → starts k ≡ false
      go true is = ap starts (eqb-true k row is) ∙ here (subst (λ n. n < row_count) (eqb-true k row is) small)
      go false is = before k small (omega (arith, within, not_from_Decides (k == row) (Decides-eqb k row) is))

  -- no row's name begins the line
  pub unknown : ((k : ℕ) → k < row_count → starts k ≡ false) → begins_with_known line ≡ false
  unfolding begins_with_known
  unknown none = list_any_none (begins_with_row line) known_fields (All-from_get_or (λ row. begins_with_row line row ≡ false) known_fields ([], Text) none)

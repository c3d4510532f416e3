-- The rows of a package in one reading, by what they ask for.
use Rattle.std.proofs.Common.{◌≡◌, inl, inr, ℕ, Bool, true, false, not, cond, ◌||◌, List, [], ◌∷◌, ◌++◌, map, get_or, Some, slice_get, codes, refl, sym, ap, ◌∙◌, subst}
use Rattle.std.specs.List.{Contains, flat_map, list_any}
use Rattle.std.proofs.lemmas.List.{map-append}
use Rattle.std.proofs.lemmas.List.Elements.{Contains-append_cases, Contains-get_or}
use Rattle.deb_relation.specs.Applying.{Environment, is_among}
use Rattle.deb_relation.specs.Meaning.{Group}
use Rattle.deb_field.specs.Values.{ValueMeaning}
use Rattle.deb_control.specs.Documents.{Meaning}
use Rattle.deb_control.specs.FieldWords.{groups_of, value_under, word_under}
use Rattle.deb_control.specs.ValueFiles.{ValueEntries}
use Rattle.deb_index.specs.Listed.{Listed}
use Rattle.deb_index.specs.Named.{has_name, numbers_of}
use Rattle.deb_unmet.specs.Asked.{fields_with}
use Rattle.deb_unmet.specs.Fields.{environment_for}
use Rattle.deb_unmet.specs.declared.asked.Asked.TheVariants.{Packages}
use Rattle.deb_install.specs.Explaining.{RowMeaning, GroupRow, NameRow, EmptyRow, groups_with_rows, need_of, rows_asked, sure_groups}
use Rattle.deb_install.specs.Reasons.{HasValues, IsTrueReason, Reason, respects}
use Rattle.deb_install.specs.Rows.{candidates, group_rows, may_be_applying, some_surely_applies}
use Rattle.deb_install.specs.Terms.{Terms, essential_names, left_out_rows}
use Rattle.deb_install.specs.Universes.{Setting, needed_in, setting}
use Rattle.deb_install.specs.declared.readings.Readings.TheVariants.{One}
use Rattle.deb_install.proofs.Appended.{map-kept}
use Rattle.deb_install.proofs.Contained.{contains-cases, contains-none, flat-twice, from-filter, from-flat, from-map, map-at}

-- in one reading there is a row for each group of which an alternative surely applies
abbrev pub row_of : Environment → List Listed → Group → List ℕ
row_of environment packages group = flat_map (candidates environment packages) (may_be_applying environment group)

pub one-rows : (environment : Environment) (packages : List Listed) (groups : List Group) → flat_map (group_rows One environment packages) groups ≡ map (row_of environment packages) (sure_groups environment groups)
one-rows environment packages groups = sym (map-kept (row_of environment packages) (some_surely_applies environment) groups)

map-twice : {X Y Z : Type 0} (f : Y → Z) (g : X → Y) (xs : List X) → map f (map g xs) ≡ map (λ x. f (g x)) xs
map-twice f g [] = refl
map-twice f g (x ∷ xs) = ap (λ l. f (g x) ∷ l) (map-twice f g xs)

or-false : (v w : Bool) → w ≡ false → not v ≡ (not v || w)
or-false true w is = sym is
or-false false w is = refl

module _ (t : Terms) (environment : Environment) (packages : List Listed) (meaning : Meaning) (values : ValueEntries ValueMeaning) where
  abbrev s : Setting
  s = setting One t environment packages meaning

  abbrev own : Environment
  own = environment_for (Packages t.strength) environment values

  abbrev groups_in : List ℕ → List Group
  groups_in field = groups_of (value_under field values)

  abbrev groups : List Group
  groups = groups_with_rows t environment values

  abbrev names : List (List ℕ)
  names = essential_names t environment.native meaning

  abbrev is_out : Bool
  is_out = is_among (word_under (codes "Package") values) t.without

  -- the numbers of the row
  abbrev numbers_for : RowMeaning → List ℕ
  numbers_for (GroupRow group) = row_of own packages group
  numbers_for (NameRow name) = numbers_of (has_name name) packages
  numbers_for EmptyRow = []

  out-rows : (v : Bool) → cond v ([] ∷ []) [] ≡ map numbers_for (cond v (EmptyRow ∷ []) [])
  out-rows true = refl
  out-rows false = refl

  pub rows-by-meaning : needed_in s values ≡ map numbers_for (rows_asked s values)
  rows-by-meaning =
      let by_group = flat-twice (group_rows One own packages) groups_in (fields_with t.strength) ∙ one-rows own packages (flat_map groups_in (fields_with t.strength)) ∙ sym (map-twice numbers_for GroupRow groups) in
      let by_name = sym (map-twice numbers_for NameRow names) in
      let others = cond is_out (EmptyRow ∷ []) [] in
      let rest : left_out_rows t.without (word_under (codes "Package") values) ++ map (λ name. numbers_of (has_name name) packages) names ≡ map numbers_for (others ++ map NameRow names) =
      (λ i. out-rows is_out i ++ by_name i) ∙ sym (map-append numbers_for others (map NameRow names)) in
      (λ i. by_group i ++ rest i) ∙ sym (map-append numbers_for (map GroupRow groups) (others ++ map NameRow names))

  -- what a row of the package asks for
  abbrev IsAskedFor : RowMeaning → Type 0
  IsAskedFor (GroupRow group) = Contains groups group
  IsAskedFor (NameRow name) = Contains names name
  IsAskedFor EmptyRow = is_out ≡ true

  in-out : (r : RowMeaning) (v : Bool) → is_out ≡ v → Contains (cond v (EmptyRow ∷ []) []) r → IsAskedFor r
  in-out r true is has = elim (contains-cases EmptyRow r [] has) [
    | inl first ↦ subst IsAskedFor first is
    | inr later ↦ absurd (contains-none r later)
  ]
  in-out r false is has = absurd (contains-none r has)

  asked-for : (r : RowMeaning) → Contains (rows_asked s values) r → IsAskedFor r
  asked-for r has = elim (Contains-append_cases (map GroupRow groups) (cond is_out (EmptyRow ∷ []) [] ++ map NameRow names) r has) [
    | inl first ↦ let it = from-map GroupRow groups r first in subst IsAskedFor it.same it.is
    | inr later ↦ elim (Contains-append_cases (cond is_out (EmptyRow ∷ []) []) (map NameRow names) r later) [
      | inl second ↦ in-out r is_out refl second
      | inr third ↦ let it = from-map NameRow names r third in subst IsAskedFor it.same it.is
    ]
  ]

  true-row : (number : ℕ) (candidates : List ℕ) (r : RowMeaning) → HasValues meaning number values → IsAskedFor r → numbers_for r ≡ candidates → IsTrueReason s (need_of number r candidates)
  true-row number candidates (GroupRow group) has asked is =
      let among = from-filter (some_surely_applies own) (flat_map groups_in (fields_with t.strength)) group asked in
      let field = from-flat groups_in (fields_with t.strength) group among.0 in
      record {
        values = values;
        has = has;
        field = field.from;
        counts = field.is;
        needed = field.has;
        rows = ap (λ v. cond v (row_of own packages group ∷ []) []) among.1 ∙ ap (λ row. row ∷ []) is;
      }
  true-row number candidates (NameRow name) has asked is = record { values = values; has = has; essential = asked; have = sym is }
  true-row number candidates EmptyRow has asked is = record { values = values; has = has; left_out = asked }

  same-need : (set : ℕ → Bool) (number : ℕ) (candidates : List ℕ) (r : RowMeaning) → numbers_for r ≡ candidates → respects set (need_of number r candidates) ≡ (not (set number) || list_any set candidates)
  same-need set number candidates (GroupRow group) is = refl
  same-need set number candidates (NameRow name) is = refl
  same-need set number candidates EmptyRow is = or-false (set number) (list_any set candidates) (ap (list_any set) (sym is))

  -- A true reason, which a set respects exactly if it doesn't contain the number or has a candidate.
  pub record TrueNeed (number : ℕ) (reason : Reason) (candidates : List ℕ) : Type 0 where
    pub is_true : IsTrueReason s reason
    pub same : (set : ℕ → Bool) → respects set reason ≡ (not (set number) || list_any set candidates)

  pub true-need : (number at : ℕ) (candidates : List ℕ) → HasValues meaning number values → slice_get (needed_in s values) at ≡ Some candidates → TrueNeed number (need_of number (get_or (rows_asked s values) at EmptyRow) candidates) candidates
  true-need number at candidates has found =
      let rows = rows_asked s values in
      let r = get_or rows at EmptyRow in
      let here = map-at numbers_for rows at EmptyRow candidates (sym (ap (λ l. slice_get l at) rows-by-meaning) ∙ found) in
      record {
        is_true = true-row number candidates r has (asked-for r (Contains-get_or rows at EmptyRow here.0)) here.1;
        same = λ set. same-need set number candidates r here.1;
      }

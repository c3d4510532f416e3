-- A package that true reasons rule out isn't installable.
use Rattle.std.proofs.Common.{◌≡◌, ℕ, ◌+◌, ◌-◌, ◌≤◌, Bool, true, false, not, cond, ◌&&◌, ◌||◌, List, [], ◌∷◌, ◌++◌, length, get_or, Some, slice_get, codes, refl, sym, ap, ◌∙◌, subst, arith}
use Rattle.std.specs.List.{Contains, flat_map, list_any}
use Rattle.std.proofs.lemmas.Bool.{false≢true}
use Rattle.std.proofs.lemmas.List.Elements.{Contains-append_left, Contains-append_right}
use Rattle.std.proofs.lemmas.Option.{get_or_from_slice_get}
use Rattle.deb_relation.specs.Meaning.{Group}
use Rattle.deb_field.specs.Values.{ValueMeaning}
use Rattle.deb_control.specs.FieldWords.{groups_of, value_under, word_under}
use Rattle.deb_control.specs.ValueFiles.{ValueEntries}
use Rattle.deb_index.specs.Named.{has_name, numbers_of}
use Rattle.deb_unmet.specs.Asked.{fields_with}
use Rattle.deb_unmet.specs.Fields.{environment_for}
use Rattle.deb_unmet.specs.declared.asked.Asked.TheVariants.{Packages}
use Rattle.deb_install.specs.Laws.{ReasonsRuleOut}
use Rattle.deb_install.specs.Members.{IsHealthyByRows}
use Rattle.deb_install.specs.Reasons.{ExcludesOther, HasValues, IsTrueReason, IsWithout, NeedsEssential, NeedsGroup, Reason, Needs, NeedsName, IsLeftOut, Excludes, respects}
use Rattle.deb_install.specs.Rows.{AreRowsOf, group_rows, needed_rows}
use Rattle.deb_install.specs.Terms.{essential_names, essential_rows, left_out_rows}
use Rattle.deb_install.specs.Universes.{Setting, excluded_in, needed_in}
use Rattle.deb_install.proofs.Contained.{all-if-each, contains-flat, contains-head, contains-map, none-contained}
use Rattle.deb_install.proofs.InstallableRows.{rows_decide}
use Rattle.deb_install.proofs.Smaller.{all-contained}

or-none : (v : Bool) → (v || false) ≡ true → v ≡ true
or-none true is = refl
or-none false is = is

module _ (s : Setting) where
  abbrev values_of : ℕ → ValueEntries ValueMeaning
  values_of number = get_or s.values (number - 1) []

  abbrev pub needs : ℕ → List (List ℕ)
  needs number = needed_in s (values_of number)

  abbrev pub excludes : ℕ → List ℕ
  excludes number = excluded_in s number (values_of number)

  the-values : (number : ℕ) (values : ValueEntries ValueMeaning) → HasValues s.values number values → values_of number ≡ values
  the-values number values has =
      let counted = has.is in
      let before : number - 1 ≡ has.before = omega (arith, counted) in
      ap (λ k. get_or s.values k []) before ∙ get_or_from_slice_get s.values has.before values [] has.at

  numbered : (k : ℕ) (values : ValueEntries ValueMeaning) → slice_get s.values k ≡ Some values → HasValues s.values (k + 1) values
  numbered k values at = record { before = k; is = refl; at = at }

  pub are-rows : AreRowsOf s.readings s.terms s.environment s.packages s.values needs excludes
  are-rows = record {
    needed = λ k values at. ap (needed_in s) (the-values (k + 1) values (numbered k values at));
    excluded = λ k values at. ap (excluded_in s (k + 1)) (the-values (k + 1) values (numbered k values at));
  }

  -- the rows of groups, then that of a name that is left out, and those of essential names
  abbrev group_part : ValueEntries ValueMeaning → List (List ℕ)
  group_part values = needed_rows s.readings s.terms.strength s.environment s.packages values

  abbrev out_part : ValueEntries ValueMeaning → List (List ℕ)
  out_part values = left_out_rows s.terms.without (word_under (codes "Package") values)

  abbrev name_part : List (List ℕ)
  name_part = essential_rows s.terms s.environment.native s.packages s.values

  has-row : (number : ℕ) (values : ValueEntries ValueMeaning) (row : List ℕ) → HasValues s.values number values → Contains (needed_in s values) row → Contains (needs number) row
  has-row number values row has contains = subst (λ v. Contains (needed_in s v) row) (sym (the-values number values has)) contains

  needs-group : (number : ℕ) (group : Group) (candidates : List ℕ) → NeedsGroup s number group candidates → Contains (needs number) candidates
  needs-group number group candidates reason =
      let own = environment_for (Packages s.terms.strength) s.environment reason.values in
      let rows : Group → List (List ℕ) = group_rows s.readings own s.packages in
      let all : List ℕ → List Group = λ field. groups_of (value_under field reason.values) in
      has-row number reason.values candidates reason.has
      (Contains-append_left (group_part reason.values) (out_part reason.values ++ name_part) candidates
      (contains-flat (λ field. flat_map rows (all field)) (fields_with s.terms.strength) reason.field candidates reason.counts
      (contains-flat rows (all reason.field) group candidates reason.needed (subst (λ l. Contains l candidates) (sym reason.rows) (contains-head candidates [])))))

  needs-name : (number : ℕ) (name candidates : List ℕ) → NeedsEssential s number name candidates → Contains (needs number) candidates
  needs-name number name candidates reason =
      has-row number reason.values candidates reason.has
      (Contains-append_right (group_part reason.values) (out_part reason.values ++ name_part) candidates
      (Contains-append_right (out_part reason.values) name_part candidates
      (subst (Contains name_part) (sym reason.have)
      (contains-map (λ other. numbers_of (has_name other) s.packages) (essential_names s.terms s.environment.native s.values) name reason.essential))))

  needs-nothing : (number : ℕ) → IsWithout s number → Contains (needs number) []
  needs-nothing number reason =
      has-row number reason.values [] reason.has
      (Contains-append_right (group_part reason.values) (out_part reason.values ++ name_part) []
      (Contains-append_left (out_part reason.values) name_part []
      (subst (λ v. Contains {X = List ℕ} (cond v ([] ∷ []) []) []) (sym reason.left_out) (contains-head {X = List ℕ} [] []))))

  excludes-number : (number other : ℕ) → ExcludesOther s number other → Contains (excludes number) other
  excludes-number number other reason =
      subst (λ values. Contains (excluded_in s number values) other) (sym (the-values number reason.values reason.has)) reason.excluded

  module _ (set : ℕ → Bool) (listed : (other : ℕ) → set other ≡ true → (1 ≤ other) × (other ≤ length s.packages)) (healthy : IsHealthyByRows (length s.packages) needs excludes set) where
    row-met : (member : ℕ) (candidates : List ℕ) → Contains (needs member) candidates → (v : Bool) → set member ≡ v → (not v || list_any set candidates) ≡ true
    row-met member candidates contains false is = refl
    row-met member candidates contains true is =
        let within = listed member is in
        all-contained (list_any set) (needs member) candidates (healthy.abundance member within.0 within.1 is) contains

    exclusion-respected : (by other : ℕ) → ExcludesOther s by other → (v : Bool) → set by ≡ v → not (v && set other) ≡ true
    exclusion-respected by other reason false is = refl
    exclusion-respected by other reason true is =
        let within = listed by is in
        none-contained set (excludes by) other (healthy.peace by within.0 within.1 is) (excludes-number by other reason)

    pub respected : (reason : Reason) → IsTrueReason s reason → respects set reason ≡ true
    respected (Needs member group candidates) reason = row-met member candidates (needs-group member group candidates reason) (set member) refl
    respected (NeedsName member name candidates) reason = row-met member candidates (needs-name member name candidates reason) (set member) refl
    respected (IsLeftOut member) reason = or-none (not (set member)) (row-met member [] (needs-nothing member reason) (set member) refl)
    respected (Excludes by other) reason = exclusion-respected by other reason (set by) refl

pub reasons_rule_out : ReasonsRuleOut
reasons_rule_out s reasons number lists are_true out installable =
    let decided = rows_decide s.readings s.terms s.environment s.packages s.values (needs s) (excludes s) lists (are-rows s) in
    let has = decided.installable number installable in
    let all = all-if-each (respects has.set) reasons (λ reason within. respected s has.set has.listed has.healthy reason (are_true reason within)) in
    false≢true (sym (out has.set has.listed all) ∙ has.contains)

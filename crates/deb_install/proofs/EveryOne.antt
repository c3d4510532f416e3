-- What passes in every reading passes in one.
use Rattle.std.proofs.Common.{◌≡◌, ℕ, Bool, true, false, cond, not, ◌&&◌, is_none, List, [], ◌∷◌, None, Some, codes, refl, ap}
use Rattle.std.specs.List.{list_all, list_any}
use Rattle.std.proofs.lemmas.Bool.{and_from, and_parts, false≢true, or_left, or_right, true_from_ne_false}
use Rattle.deb_relation.specs.Applying.{Environment}
use Rattle.deb_relation.specs.Meaning.{Alternative, Group}
use Rattle.deb_field.specs.Values.{ValueMeaning}
use Rattle.deb_control.specs.Documents.{Meaning}
use Rattle.deb_control.specs.FieldWords.{groups_of, value_under, word_under}
use Rattle.deb_control.specs.ValueFiles.{ValueEntries}
use Rattle.deb_index.specs.Listed.{Listed}
use Rattle.deb_unmet.specs.Asked.{fields_with}
use Rattle.deb_unmet.specs.Fields.{environment_for}
use Rattle.deb_unmet.specs.Readings.{applies_by, may, surely}
use Rattle.deb_unmet.specs.Troubles.{can_be_otherwise, can_be_unmet, is_met, trouble}
use Rattle.deb_unmet.specs.declared.applying.Applies.{Applies}
use Rattle.deb_unmet.specs.declared.applying.Applies.TheVariants.{Surely, Maybe, Never}
use Rattle.deb_unmet.specs.declared.asked.Asked.TheVariants.{Packages}
use Rattle.deb_unmet.specs.declared.asked.Strength.{Strength}
use Rattle.deb_health.specs.Excluding.{excludes}
use Rattle.deb_health.specs.Health.{are_apart, is_abundant, is_peaceful}
use Rattle.deb_health.specs.Lines.{negative_fields}
use Rattle.deb_health.proofs.Growing.{all-grows, and-grows, any-grows, not-grows}
use Rattle.deb_install.specs.Installable.{can_be_abundant, can_be_peaceful, is_healthy_in}
use Rattle.deb_install.specs.Laws.{EveryReadingIsOne}
use Rattle.deb_install.specs.Members.{members_of}
use Rattle.deb_install.specs.Terms.{is_allowed}
use Rattle.deb_install.specs.declared.readings.Readings.TheVariants.{Every, One}
use Rattle.deb_install.proofs.GroupRows.{other-head}

surely-may : (x : Applies) → surely x ≡ true → may x ≡ true
surely-may Surely is = refl
surely-may Maybe is = absurd (false≢true is)
surely-may Never is = absurd (false≢true is)

pub not-unmet : {X : Type 0} (a b : X) (unmet other : Bool) → is_none (cond unmet (cond other (Some a) (Some b)) None) ≡ true → unmet ≡ true → ⊥
not-unmet a b true true is so = false≢true is
not-unmet a b true false is so = false≢true is
not-unmet a b false other is so = false≢true so

module _ (environment : Environment) (packages : List Listed) where
  abbrev sure : Alternative → Bool
  sure a = surely (applies_by environment a)

  abbrev perhaps : Alternative → Bool
  perhaps a = may (applies_by environment a)

  abbrev sure_met : Group → Bool
  sure_met group = list_any (λ a. sure a && is_met environment packages a) group

  abbrev other : Group → Bool
  other group = list_any (λ a. perhaps a && not (is_met environment packages a)) group

  other-may : (group : Group) → list_any sure group ≡ true → sure_met group ≡ false → other group ≡ true
  other-may [] is none = absurd (false≢true is)
  other-may (a ∷ group) is none = other-head (applies_by environment a) (is_met environment packages a) (list_any sure group) (sure_met group) (other group) is none (other-may group)

  pub otherwise-if-none : (group : Group) → is_none (trouble environment packages group) ≡ true → can_be_otherwise environment packages group ≡ true
  otherwise-if-none group is = go (list_any sure group) refl
    where
      some_met : Bool
      some_met = list_any (λ a. perhaps a && is_met environment packages a) group

      unmet : sure_met group ≡ false → list_any sure group ≡ true → ⊥
      unmet none some = not-unmet _ _ (can_be_unmet environment packages group) (can_be_otherwise environment packages group) is
          (and_from (not (sure_met group)) (other group) (ap not none) (other-may group some none))

      go : (some : Bool) → list_any sure group ≡ some → can_be_otherwise environment packages group ≡ true
      go true some = or_left (list_any (λ a. perhaps a && is_met environment packages a) group) (not (list_any sure group))
          (any-grows (λ a. sure a && is_met environment packages a) (λ a. perhaps a && is_met environment packages a)
          (λ a. and-grows (sure a) (perhaps a) (is_met environment packages a) (is_met environment packages a) (surely-may (applies_by environment a)) (λ e. e)) group
          (true_from_ne_false (sure_met group) (λ none. unmet none some)))
      go false none = or_right (list_any (λ a. perhaps a && is_met environment packages a) group) (not (list_any sure group)) (ap not none)

module _ (strength : Strength) (environment : Environment) (packages : List Listed) where
  abundant-one : (values : ValueEntries ValueMeaning) → is_abundant strength environment packages values ≡ true → can_be_abundant strength environment packages values ≡ true
  abundant-one values =
      let own = environment_for (Packages strength) environment values in
      let none : Group → Bool = λ group. is_none (trouble own packages group) in
      let all : (Group → Bool) → List ℕ → Bool = λ test field. list_all test (groups_of (value_under field values)) in
      all-grows (all none) (all (can_be_otherwise own packages)) (λ field. all-grows none (can_be_otherwise own packages) (otherwise-if-none own packages) (groups_of (value_under field values))) (fields_with strength)

  peaceful-one : (values : ValueEntries ValueMeaning) → is_peaceful strength environment packages values ≡ true → can_be_peaceful strength environment packages values ≡ true
  peaceful-one values =
      let own = environment_for (Packages strength) environment values in
      let some : Alternative → Bool = λ a. list_any (excludes environment.native (word_under (codes "Package") values) a) packages in
      let spared : Alternative → Bool = λ a. not (may (applies_by own a) && some a) in
      let surely_spared : Alternative → Bool = λ a. not (surely (applies_by own a) && some a) in
      let group_of : (Alternative → Bool) → List Alternative → Bool = λ test group. list_all test group in
      let all : (Alternative → Bool) → List ℕ → Bool = λ test field. list_all (group_of test) (groups_of (value_under field values)) in
      all-grows (all spared) (all surely_spared)
      (λ field. all-grows (group_of spared) (group_of surely_spared)
      (λ group. all-grows spared surely_spared
      (λ a. not-grows (may (applies_by own a) && some a) (surely (applies_by own a) && some a)
      (and-grows (surely (applies_by own a)) (may (applies_by own a)) (some a) (some a) (surely-may (applies_by own a)) (λ e. e))) group)
      (groups_of (value_under field values))) negative_fields

  pub healthy-one : (meaning : Meaning) → is_healthy_in Every strength environment packages meaning ≡ true → is_healthy_in One strength environment packages meaning ≡ true
  healthy-one meaning =
      let every : ValueEntries ValueMeaning → Bool = λ values. is_abundant strength environment packages values && is_peaceful strength environment packages values in
      let one : ValueEntries ValueMeaning → Bool = λ values. can_be_abundant strength environment packages values && can_be_peaceful strength environment packages values in
      and-grows (list_all every meaning) (list_all one meaning) (are_apart environment.native packages) (are_apart environment.native packages)
      (all-grows every one
      (λ values. and-grows (is_abundant strength environment packages values) (can_be_abundant strength environment packages values) (is_peaceful strength environment packages values) (can_be_peaceful strength environment packages values) (abundant-one values) (peaceful-one values)) meaning)
      (λ e. e)

pub every_one : EveryReadingIsOne
every_one t environment packages meaning number installable =
    let members = members_of installable.set packages in
    let values = members_of installable.set meaning in
    let both = and_parts (is_allowed t environment.native meaning members) (is_healthy_in Every t.strength environment members values) installable.healthy in
    record {
      set = installable.set;
      contains = installable.contains;
      listed = installable.listed;
      healthy = and_from (is_allowed t environment.native meaning members) (is_healthy_in One t.strength environment members values) both.0
          (healthy-one t.strength environment members values both.1);
    }

-- Healthy sets by meanings of names, and in readings.
use Rattle.std.proofs.Common.{◌≡◌, ℕ, Bool, true, false, cond, not, ◌&&◌, ◌||◌, is_none, List, [], ◌∷◌, Option, None, Some, codes, refl, sym, ap, ◌∙◌}
use Rattle.std.specs.List.{list_all, list_any}
use Rattle.std.proofs.lemmas.Bool.{false≢true, true_from_ne_false}
use Rattle.deb_relation.specs.Applying.{Environment}
use Rattle.deb_relation.specs.Meaning.{Alternative, Group}
use Rattle.deb_field.specs.Values.{ValueMeaning}
use Rattle.deb_control.specs.Documents.{Meaning}
use Rattle.deb_control.specs.FieldWords.{groups_of, value_under, word_under}
use Rattle.deb_control.specs.ValueFiles.{ValueEntries}
use Rattle.deb_index.specs.Listed.{Listed}
use Rattle.deb_index.specs.declared.verdict.Verdict.{Verdict}
use Rattle.deb_index.specs.declared.verdict.Verdict.TheVariants.{Ignored, Met, Unmet}
use Rattle.deb_unmet.specs.Asked.{fields_with}
use Rattle.deb_unmet.specs.Fields.{environment_for}
use Rattle.deb_unmet.specs.GroupReadings.{IsMeaning, applies_in, verdict_in}
use Rattle.deb_unmet.specs.Laws.{IsOther}
use Rattle.deb_unmet.specs.Readings.{applies_by, may, surely}
use Rattle.deb_unmet.specs.Troubles.{can_be_otherwise, can_be_unmet, trouble}
use Rattle.deb_unmet.specs.declared.applying.Applies.{Applies}
use Rattle.deb_unmet.specs.declared.applying.Applies.TheVariants.{Surely, Maybe, Never}
use Rattle.deb_unmet.specs.declared.asked.Asked.TheVariants.{Packages}
use Rattle.deb_unmet.specs.declared.asked.Strength.{Strength}
use Rattle.deb_unmet.proofs.Meanings.{lines_are_sound}
use Rattle.deb_health.specs.Excluding.{excludes}
use Rattle.deb_health.specs.Health.{are_apart, is_abundant, is_peaceful}
use Rattle.deb_health.specs.Lines.{negative_fields}
use Rattle.deb_health.proofs.Growing.{all-grows, and-grows, not-grows}
use Rattle.deb_install.specs.Installable.{can_be_abundant, can_be_peaceful, is_healthy_in}
use Rattle.deb_install.specs.Laws.{ReadingsAreSound}
use Rattle.deb_install.specs.NameMeanings.{AreMeanings, is_abundant_by, is_healthy_by, is_not_unmet, is_peaceful_by}
use Rattle.deb_install.specs.declared.readings.Readings.TheVariants.{Every, One}
use Rattle.deb_install.proofs.EveryOne.{otherwise-if-none}

other-is : (v : Verdict) → IsOther v → is_not_unmet v ≡ true
other-is Ignored other = refl
other-is Met other = refl
other-is Unmet other = absurd (other refl)

unmet-is : (v : Verdict) → v ≡ Unmet → is_not_unmet v ≡ true → ⊥
unmet-is v is so = false≢true (sym (ap is_not_unmet is) ∙ so)

none-is : {X : Type 0} (why : Option X) → is_none why ≡ true → why ≡ None
none-is None is = refl
none-is (Some why) is = absurd (false≢true is)

-- a group that can't be met or ignored is unmet
only-unmet : {X : Type 0} (a b : X) (unmet other : Bool) → (is_none (cond unmet (cond other (Some a) (Some b)) None) ≡ true → other ≡ true) → other ≡ false → cond unmet (cond other (Some a) (Some b)) None ≡ Some b
only-unmet a b true true back none = absurd (false≢true (sym none))
only-unmet a b true false back none = refl
only-unmet a b false true back none = absurd (false≢true (sym none))
only-unmet a b false false back none = absurd (false≢true (back refl))

-- One alternative as a group that no package meets.
alone-unmet : {X : Type 0} (a b : X) (x : Applies) → surely x ≡ true → cond (not ((surely x && false) || false) && ((may x && not false) || false)) (cond (((may x && false) || false) || not (surely x || false)) (Some a) (Some b)) None ≡ Some b
alone-unmet a b Surely is = refl
alone-unmet a b Maybe is = absurd (false≢true is)
alone-unmet a b Never is = absurd (false≢true is)

alone-none : {X : Type 0} (a b : X) (x : Applies) → may x ≡ false → cond (not ((surely x && false) || false) && ((may x && not false) || false)) (cond (((may x && false) || false) || not (surely x || false)) (Some a) (Some b)) None ≡ None
alone-none a b Surely is = absurd (false≢true (sym is))
alone-none a b Maybe is = absurd (false≢true (sym is))
alone-none a b Never is = refl

verdict-alone : (applies : Bool) → cond (applies || false) (cond ((applies && false) || false) Met Unmet) Ignored ≡ Unmet → applies ≡ true
verdict-alone true is = refl
verdict-alone false is = absurd cc

verdict-unmet : (applies : Bool) → applies ≡ true → cond (applies || false) (cond ((applies && false) || false) Met Unmet) Ignored ≡ Unmet
verdict-unmet true is = refl
verdict-unmet false is = absurd (false≢true is)

module _ (environment : Environment) (holds : List ℕ → Bool) (means : IsMeaning environment.target holds) where
  surely-applies : (a : Alternative) → surely (applies_by environment a) ≡ true → applies_in holds environment a ≡ true
  surely-applies a is = verdict-alone (applies_in holds environment a) (lines_are_sound.unmet environment [] (a ∷ []) holds means (alone-unmet _ _ (applies_by environment a) is))

  may-apply : (a : Alternative) → applies_in holds environment a ≡ true → may (applies_by environment a) ≡ true
  may-apply a is = true_from_ne_false (may (applies_by environment a)) (λ no.
      lines_are_sound.none environment [] (a ∷ []) holds means (alone-none _ _ (applies_by environment a) no) (verdict-unmet (applies_in holds environment a) is))

  met-by : (packages : List Listed) (group : Group) → is_none (trouble environment packages group) ≡ true → is_not_unmet (verdict_in holds environment packages group) ≡ true
  met-by packages group is = other-is (verdict_in holds environment packages group) (lines_are_sound.none environment packages group holds means (none-is (trouble environment packages group) is))

  otherwise-by : (packages : List Listed) (group : Group) → is_not_unmet (verdict_in holds environment packages group) ≡ true → can_be_otherwise environment packages group ≡ true
  otherwise-by packages group is = true_from_ne_false (can_be_otherwise environment packages group) (λ none.
      unmet-is (verdict_in holds environment packages group)
      (lines_are_sound.unmet environment packages group holds means
      (only-unmet _ _ (can_be_unmet environment packages group) (can_be_otherwise environment packages group) (otherwise-if-none environment packages group) none)) is)

module _ (holds : List ℕ → List ℕ → Bool) (means : AreMeanings holds) (strength : Strength) (environment : Environment) (packages : List Listed) where
  module _ (values : ValueEntries ValueMeaning) where
    abbrev own : Environment
    own = environment_for (Packages strength) environment values

    abbrev own_holds : List ℕ → Bool
    own_holds = holds own.target

    abbrev all : (Group → Bool) → List ℕ → Bool
    all test field = list_all test (groups_of (value_under field values))

    abbrev excluded : Alternative → Bool
    excluded a = list_any (excludes environment.native (word_under (codes "Package") values) a) packages

    abbrev spared : (Alternative → Bool) → Alternative → Bool
    spared applies a = not (applies a && excluded a)

    abundant-by : is_abundant strength environment packages values ≡ true → is_abundant_by holds strength environment packages values ≡ true
    abundant-by =
        let none : Group → Bool = λ group. is_none (trouble own packages group) in
        let met : Group → Bool = λ group. is_not_unmet (verdict_in own_holds own packages group) in
        all-grows (all none) (all met) (λ field. all-grows none met (met-by own own_holds (means own.target) packages) (groups_of (value_under field values))) (fields_with strength)

    by-abundant : is_abundant_by holds strength environment packages values ≡ true → can_be_abundant strength environment packages values ≡ true
    by-abundant =
        let met : Group → Bool = λ group. is_not_unmet (verdict_in own_holds own packages group) in
        all-grows (all met) (all (can_be_otherwise own packages)) (λ field. all-grows met (can_be_otherwise own packages) (otherwise-by own own_holds (means own.target) packages) (groups_of (value_under field values))) (fields_with strength)

    fewer-apply : (more fewer : Alternative → Bool) → ((a : Alternative) → fewer a ≡ true → more a ≡ true) → list_all (all (list_all (spared more))) negative_fields ≡ true → list_all (all (list_all (spared fewer))) negative_fields ≡ true
    fewer-apply more fewer each =
        all-grows (all (list_all (spared more))) (all (list_all (spared fewer)))
        (λ field. all-grows (list_all (spared more)) (list_all (spared fewer))
        (all-grows (spared more) (spared fewer)
        (λ a. not-grows (more a && excluded a) (fewer a && excluded a) (and-grows (fewer a) (more a) (excluded a) (excluded a) (each a) (λ e. e))))
        (groups_of (value_under field values))) negative_fields

    peaceful-by : is_peaceful strength environment packages values ≡ true → is_peaceful_by holds strength environment packages values ≡ true
    peaceful-by = fewer-apply (λ a. may (applies_by own a)) (λ a. applies_in own_holds own a) (may-apply own own_holds (means own.target))

    by-peaceful : is_peaceful_by holds strength environment packages values ≡ true → can_be_peaceful strength environment packages values ≡ true
    by-peaceful = fewer-apply (λ a. applies_in own_holds own a) (λ a. surely (applies_by own a)) (surely-applies own own_holds (means own.target))

  module _ (meaning : Meaning) where
    abbrev one : ValueEntries ValueMeaning → Bool
    one values = can_be_abundant strength environment packages values && can_be_peaceful strength environment packages values

    abbrev every : ValueEntries ValueMeaning → Bool
    every values = is_abundant strength environment packages values && is_peaceful strength environment packages values

    abbrev by : ValueEntries ValueMeaning → Bool
    by values = is_abundant_by holds strength environment packages values && is_peaceful_by holds strength environment packages values

    healthy-by : is_healthy_in Every strength environment packages meaning ≡ true → is_healthy_by holds strength environment packages meaning ≡ true
    healthy-by =
        and-grows (list_all every meaning) (list_all by meaning) (are_apart environment.native packages) (are_apart environment.native packages)
        (all-grows every by (λ values. and-grows (is_abundant strength environment packages values) (is_abundant_by holds strength environment packages values) (is_peaceful strength environment packages values) (is_peaceful_by holds strength environment packages values) (abundant-by values) (peaceful-by values)) meaning)
        (λ e. e)

    by-healthy : is_healthy_by holds strength environment packages meaning ≡ true → is_healthy_in One strength environment packages meaning ≡ true
    by-healthy =
        and-grows (list_all by meaning) (list_all one meaning) (are_apart environment.native packages) (are_apart environment.native packages)
        (all-grows by one (λ values. and-grows (is_abundant_by holds strength environment packages values) (can_be_abundant strength environment packages values) (is_peaceful_by holds strength environment packages values) (can_be_peaceful strength environment packages values) (by-abundant values) (by-peaceful values)) meaning)
        (λ e. e)

pub readings_are_sound : ReadingsAreSound
readings_are_sound = record {
  in_every = λ holds strength environment packages meaning means. healthy-by holds means strength environment packages meaning;
  in_one = λ holds strength environment packages meaning means. by-healthy holds means strength environment packages meaning;
}

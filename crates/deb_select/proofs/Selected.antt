-- Whether a paragraph is selected, as its fields come one after another.
use Rattle.std.proofs.Common.{◌≡◌, ℕ, ◌-◌, ◌==◌, Bool, true, false, not, List, [], ◌∷◌, ◌++◌, length, map, refl, sym, ap, ◌∙◌, subst, arith, append_assoc, append-nil}
use Rattle.std.proofs.lemmas.List.{map-append}
use mathlib.Core.Bool.{beq}
use Rattle.std.specs.List.{list_all}
use Rattle.deb_base.specs.Kinds.{kind_of}
use Rattle.deb_base.specs.Names.{canonical_name, folded}
use Rattle.deb_base.specs.declared.doc.Doc.{Doc}
use Rattle.deb_syntax.specs.Answers.{Seen}
use Rattle.deb_syntax.specs.Fields.{AreDistinct, Field, are_fields, has_name}
use Rattle.deb_field.specs.ValueLaws.{kind_of_canonical_name}
use Rattle.deb_field.specs.Values.{SpellsKind, SpellsValue, ValueMeaning}
use Rattle.deb_control.specs.Paragraphs.{AreValuesOf}
use Rattle.deb_control.specs.ValueFiles.{ValueEntries}
use Rattle.deb_control.proofs.Building.{distinct-from}
use Rattle.deb_select.specs.Conditions.{SelectionMeaning, holds, selects, turned}
use Rattle.deb_select.specs.Kept.{passes_kept, test_shown, value_kept}
use Rattle.deb_select.specs.Selections.{HasConditions, asks_for, conditions_on, tests_on, tests_under}
use Rattle.deb_select.specs.declared.selection.Selection.{Selection}
use Rattle.deb_select.specs.declared.test.Test.{Test}
use Rattle.deb_select.proofs.FieldValues.{apart-before, field-value, no-value}
use Rattle.deb_select.proofs.Judging.{JudgedSo, all-judged, early-judged, as-many, none-on, one-fails, one-judged, tests-hold}

turned-false : (negated : Bool) → turned negated false ≡ negated
turned-false true = refl
turned-false false = refl

turned-true : (negated : Bool) → not negated ≡ turned negated true
turned-true true = refl
turned-true false = refl

turned-other : (negated holds : Bool) → not (beq negated holds) ≡ turned negated holds
turned-other true true = refl
turned-other true false = refl
turned-other false true = refl
turned-other false false = refl

-- the fields that have come and those that are left
pub fields-next : {X : Type 0} (f : X → Field) (yielded : List X) (x : X) (left rest all : List Field) → left ≡ f x ∷ rest → map f yielded ++ left ≡ all → map f (yielded ++ x ∷ []) ++ rest ≡ all
fields-next f yielded x left rest all steps whole =
    ap (λ l. l ++ rest) (map-append f yielded (x ∷ [])) ∙ append_assoc (map f yielded) (f x ∷ []) rest ∙ ap (λ l. map f yielded ++ l) (sym steps) ∙ whole

pub fields-all : (done left all : List Field) → left ≡ [] → done ++ left ≡ all → done ≡ all
fields-all done left all none whole = sym (append-nil done) ∙ ap (λ l. done ++ l) (sym none) ∙ whole

module _ (doc : Doc) (seen : Seen) (fields : are_fields seen.fields ≡ true) (meaning : SelectionMeaning) (values : ValueEntries ValueMeaning) (are : AreValuesOf doc seen values) (selection : Selection) (has : HasConditions doc meaning selection) where
  abbrev Judged : List Field → ℕ → Type 0
  Judged done left = JudgedSo meaning.conditions values done left

  module _ (done rest : List Field) (field : Field) (whole : done ++ field ∷ rest ≡ seen.fields) where
    none-before : has_name field.name done ≡ false
    none-before = apart-before done rest field (subst AreDistinct (sym whole) (distinct-from seen.fields fields))

    -- no condition asks for the field
    pub unasked-next : (left : ℕ) → [] ≡ tests_under selection.tests (folded field.name) → Judged done left → Judged (done ++ field ∷ []) left
    unasked-next left none so_far =
        let on : conditions_on (folded field.name) meaning.conditions ≡ [] = none-on (folded field.name) meaning.conditions (sym (none ∙ has.tests (folded field.name))) in
        one-judged meaning.conditions values done field left left none-before (zero-less left ∙ ap (λ l. left - length l) (sym on)) (ap (list_all (λ c. holds c values)) on) so_far
      where
        zero-less : (n : ℕ) → n ≡ n - 0
        zero-less n = omega arith

    module _ (tests : List Test) (lent : map test_shown tests ≡ tests_under selection.tests (folded field.name)) (passed : Bool)
        (tested : (value : ValueMeaning) → SpellsValue selection.doc field.name field.body value → passed ≡ list_all (λ test. passes_kept test (value_kept value)) (map test_shown tests)) where
      kept : map test_shown tests ≡ tests_on (folded field.name) meaning.conditions
      kept = lent ∙ has.tests (folded field.name)

      passed-is : passed ≡ list_all (λ c. holds c values) (conditions_on (folded field.name) meaning.conditions)
      passed-is =
          let at = field-value doc seen fields values are done rest field whole in
          let kind : kind_of doc (canonical_name field.name) ≡ kind_of selection.doc field.name = kind_of_canonical_name doc field.name ∙ ap (λ d. kind_of d field.name) (sym has.of_kind) in
          tested at.value (subst (λ k. SpellsKind k field.body at.value) kind at.spells)
          ∙ ap (list_all (λ test. passes_kept test (value_kept at.value))) kept
          ∙ sym (tests-hold doc field values at meaning.conditions has.spelled)

      pub asked-next : (left now : ℕ) → now ≡ left - length tests → passed ≡ true → Judged done left → Judged (done ++ field ∷ []) now
      asked-next left now counts passes so_far =
          one-judged meaning.conditions values done field left now none-before
          (counts ∙ ap (λ n. left - n) (as-many test_shown tests (folded field.name) meaning.conditions kept)) (sym passed-is ∙ passes) so_far

      pub asked-fails : passed ≡ false → selection.negated ≡ selects meaning values
      asked-fails fails =
          has.negated ∙ sym (turned-false meaning.negated)
          ∙ ap (turned meaning.negated) (sym (one-fails (asks_for (folded field.name)) (λ c. holds c values) meaning.conditions (sym passed-is ∙ fails)))

  pub judged-all : (left : ℕ) → Judged seen.fields left → not (beq selection.negated (left == 0)) ≡ selects meaning values
  judged-all left so_far =
      turned-other selection.negated (left == 0) ∙ ap (λ n. turned n (left == 0)) has.negated
      ∙ ap (turned meaning.negated) (all-judged meaning.conditions values seen.fields left (no-value doc seen fields values are) so_far)

  pub judged-early : (done : List Field) (left : ℕ) → left ≡ 0 → Judged done left → not selection.negated ≡ selects meaning values
  judged-early done left none so_far =
      turned-true selection.negated ∙ ap (λ n. turned n true) has.negated
      ∙ ap (turned meaning.negated) (sym (early-judged meaning.conditions values done left none so_far))

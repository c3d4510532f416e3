-- The texts of fields that are appended one after another, and the first whose value is refused.
use Rattle.deb_control.proofs.Common.{◌≡◌, ℕ, ◌+◌, ◌<◌, List, ◌∷◌, ◌++◌, length, drop, get_or, slice_get, option_map, Bool, true, Some, Result, Ok, IsSome, add-one, suc, is_some, false≢true, All-drop, sym, ap, ◌∙◌, subst, append_assoc, flat_map, AllByRecursion, canonical_name, Field, field_of, RawField, Doc, kind_of, kind_refusal, SpellsKind, ValueMeaning, value_text, rules_of, IsGood, no_field, picked, text_under}
use Rattle.std.specs.Prelude.{OnOk}
use Rattle.std.proofs.lemmas.Option.{get_or_from_slice_get}
use Rattle.std.proofs.Math.Seq.{drop-cons}
use Rattle.std.proofs.lemmas.List.{drop-map}
use Rattle.deb_base.specs.declared.kind.Kind.{Kind}
use Rattle.deb_control.specs.CanonTexts.{AppendsField, AppendsValue, body_text}
use Rattle.deb_control.proofs.DocumentRules.{document_rules}

-- a value of a kind, behind what was written before
pub value-appended : {E : Type 0} (kind : Kind) (body : List ℕ) (value : ValueMeaning) → SpellsKind kind body value → (before old new : List ℕ) (result : Result Bool E) → OnOk result (new ≡ old ++ body_text (value_text value)) → old ≡ before → result ≡ Ok true → AppendsValue kind body before new
value-appended kind body value spells before old new result written begun is =
    record { value = value; spells = spells; appended = (rw is at written) ∙ ap (λ text. text ++ body_text (value_text value)) begun }

-- the text of a field with a value is that under the rules
appended : (doc : Doc) (field : Field) (old new : List ℕ) → AppendsField (kind_of doc (canonical_name field.name)) field old new → (new ≡ old ++ text_under (rules_of doc) field) × IsGood (rules_of doc) field
appended doc field old new appends =
    let name = canonical_name field.name in (
      appends.appended
          ∙ append_assoc old name (body_text (value_text appends.value))
          ∙ ap (λ body. old ++ (name ++ body_text body)) (sym ((document_rules doc).text name field.body appends.value appends.spells)),
      (document_rules doc).unrefused name field.body appends.value appends.spells,
    )

module _ (doc : Doc) (fields : List Field) (order : List ℕ) (i : ℕ) (within : i < length order) (raw : RawField) (at : option_map field_of (Some raw) ≡ slice_get fields (get_or order i 0)) where
  pub picked-next : picked fields (drop i order) ≡ field_of raw ∷ picked fields (drop (i + 1) order)
  picked-next =
      ap (picked fields) (drop-cons order i 0 within)
      ∙ ap (λ field. field ∷ picked fields (drop (suc i) order)) (get_or_from_slice_get fields (get_or order i 0) (field_of raw) no_field (sym at))
      ∙ ap (λ n. field_of raw ∷ picked fields (drop n order)) (sym (add-one i))

  -- one more
  pub texts-next : (old new whole : List ℕ) → AppendsField (kind_of doc (canonical_name raw.name.now)) (field_of raw) old new → old ++ flat_map (text_under (rules_of doc)) (picked fields (drop i order)) ≡ whole → new ++ flat_map (text_under (rules_of doc)) (picked fields (drop (i + 1) order)) ≡ whole
  texts-next old new whole appends so_far =
      let T = text_under (rules_of doc) in
      let others = picked fields (drop (i + 1) order) in
      ap (λ m. m ++ flat_map T others) (appended doc (field_of raw) old new appends).0
      ∙ append_assoc old (T (field_of raw)) (flat_map T others)
      ∙ ap (λ m. old ++ flat_map T m) (sym picked-next)
      ∙ so_far

  pub good-next : (old new : List ℕ) → AppendsField (kind_of doc (canonical_name raw.name.now)) (field_of raw) old new → (AllByRecursion (IsGood (rules_of doc)) (picked fields (drop i order)) → AllByRecursion (IsGood (rules_of doc)) (picked fields order)) → AllByRecursion (IsGood (rules_of doc)) (picked fields (drop (i + 1) order)) → AllByRecursion (IsGood (rules_of doc)) (picked fields order)
  good-next old new appends so_far rest = so_far (subst (AllByRecursion (IsGood (rules_of doc))) (sym picked-next) ((appended doc (field_of raw) old new appends).1, rest))

  -- one whose value is refused
  pub not_good : IsSome (kind_refusal (kind_of doc (canonical_name raw.name.now)) raw.body.now) → AllByRecursion (IsGood (rules_of doc)) (picked fields order) → ⊥
  not_good refused good =
      let P = IsGood (rules_of doc) in
      let rest = subst (AllByRecursion P) (drop-map (λ k. get_or fields k no_field) i order) (All-drop P i (picked fields order) good) in
      let one : IsGood (rules_of doc) (field_of raw) = (subst (AllByRecursion P) picked-next rest).0 in
      false≢true (sym (ap is_some one) ∙ refused)

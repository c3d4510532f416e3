-- What is read of a package of a status file that is neither installed nor removed.
use Rattle.std.proofs.Common.{◌≡◌, ℕ, true, false, cond, List, [], ◌∷◌, ◌++◌, codes, append_assoc, sym, ap, ◌∙◌}
use Rattle.std.specs.List.{concat}
use Rattle.deb_base.specs.declared.doc.Doc.TheVariants as docs
use Rattle.deb_syntax.specs.Raw.{field_named}
use Rattle.deb_field.specs.Values.{ValueMeaning}
use Rattle.deb_control.specs.CheckedStates.{passing_judged}
use Rattle.deb_control.specs.FieldTexts.{HasTexts}
use Rattle.deb_control.specs.FieldWords.{word_under}
use Rattle.deb_control.specs.ValueFiles.{ValueEntries}
use Rattle.deb_control.specs.declared.checked_view.CheckedView.{CheckedView}
use Rattle.deb_control.specs.declared.field_texts.FieldTexts.{FieldTexts}
use Rattle.deb_control.proofs.KeptTexts.{has-texts}
use Rattle.deb_index.specs.VersionSpellings.{body_or_nothing}
use Rattle.deb_index.proofs.Installed.{status_is}
use Rattle.deb_unmet.specs.Paragraphs.{fields_in}
use Rattle.deb_unmet.specs.Parts.{GivesValues}
use Rattle.deb_health.specs.States.{is_removed, or_hyphen, state_text, state_words, status_or_hyphen, status_word}

module _ (view : CheckedView) (texts : FieldTexts) (values : ValueEntries ValueMeaning) (gives : GivesValues view texts values) where
  pub status_read : status_or_hyphen (body_or_nothing (field_named (codes "Status") (fields_in view))) ≡ status_word values
  status_read = ap status_or_hyphen (sym (status_is (passing_judged view).seen gives.visits.fields values gives.are))

  pub texts_read : HasTexts texts values
  texts_read = has-texts texts docs.Status (passing_judged view).seen gives.visits values gives.are

module _ (values : ValueEntries ValueMeaning) (status : List ℕ) (is : status ≡ status_word values) where
  pub text_removed : is_removed status ≡ true → [] ≡ state_text values
  text_removed removed = sym (ap (λ t. cond t [] (state_words values)) (ap is_removed (sym is) ∙ removed))

  joined : (p v a s : List ℕ) → ((((32 ∷ p) ++ 32 ∷ v) ++ 32 ∷ a) ++ 32 ∷ s) ++ 10 ∷ [] ≡ concat (codes " " ∷ p ∷ codes " " ∷ v ∷ codes " " ∷ a ∷ codes " " ∷ s ∷ codes "\n" ∷ [])
  joined p v a s = simp append_assoc

  pub text_written : is_removed status ≡ false → (p v a : List ℕ) → p ≡ word_under (codes "Package") values → v ≡ or_hyphen (word_under (codes "Version") values) → a ≡ or_hyphen (word_under (codes "Architecture") values)
      → ((((32 ∷ p) ++ 32 ∷ v) ++ 32 ∷ a) ++ 32 ∷ status) ++ 10 ∷ [] ≡ state_text values
  text_written kept p v a p_is v_is a_is =
      joined p v a status
      ∙ rw (p_is, v_is, a_is, is) (sym (ap (λ t. cond t [] (state_words values)) (ap is_removed (sym is) ∙ kept)))

-- Texts that are kept one after another.
use Rattle.std.proofs.Common.{◌≡◌, ℕ, List, [], ◌∷◌, ◌++◌, drop, length, map, get_or, codes, ap, ◌∙◌, append-nil}
use Rattle.std.proofs.Math.Seq.{take-append_seam, drop-append_seam}
use Rattle.std.specs.List.{concat}
use Rattle.deb_relation.specs.Views.{names_of}
use Rattle.deb_syntax.specs.Fields.{Field}
use Rattle.deb_field.specs.Values.{ValueMeaning}
use Rattle.deb_control.specs.FieldWords.{value_under}
use Rattle.deb_control.specs.ValueFiles.{ValueEntries}
use Rattle.deb_unmet.specs.Asked.{fields_with}
use Rattle.deb_unmet.specs.KeptParagraphs.{HoldsTexts, cut_texts, paragraph_texts, relation_under, texts_in, texts_kept}
use Rattle.deb_unmet.specs.Paragraphs.{HaveRelations, IsRelationText}
use Rattle.deb_unmet.specs.declared.asked.Strength.{Strength}
use Rattle.deb_unmet.specs.declared.asked.Strength.TheVariants.{Depends, Recommends}
use Rattle.deb_unmet.specs.declared.kept.KeptParagraph.{KeptParagraph}
use Rattle.deb_unmet.specs.declared.kept.KeptTexts.{KeptTexts}

-- cut by their lengths
pub cut-joined : (texts : List (List ℕ)) (last : List ℕ) → cut_texts (map length texts) (concat (texts ++ last ∷ [])) ≡ texts ++ last ∷ []
cut-joined [] last = ap (λ l. l ∷ []) (append-nil last)
cut-joined (text ∷ texts) last =
    let rest = concat (texts ++ last ∷ []) in
    ap (λ first. first ∷ cut_texts (map length texts) (drop (length text) (text ++ rest))) (take-append_seam text rest)
    ∙ ap (λ more. text ∷ cut_texts (map length texts) more) (drop-append_seam text rest)
    ∙ ap (λ more. text ∷ more) (cut-joined texts last)

-- those that were cut are those of the paragraph
module _ (texts : KeptTexts) (kept : KeptParagraph) (fields : List Field) (values : ValueEntries ValueMeaning) (are : texts_in texts ≡ texts_kept kept) (holds : HoldsTexts fields values kept) where
  pub text-at : (i : ℕ) → get_or (texts_in texts) i [] ≡ get_or (paragraph_texts fields values) i []
  text-at i = ap (λ l. get_or l i []) (are ∙ holds.texts)

  text-has : (name text : List ℕ) → text ≡ relation_under name values → IsRelationText text (value_under name values)
  text-has name text is = record { is = is; regular = holds.regular name }

  pub kept-have : (strength : Strength) → HaveRelations (fields_with strength) (names_of (texts.pre_depends ∷ texts.depends ∷ texts.recommends ∷ [])) values
  kept-have Depends = (text-has (codes "Pre-Depends") texts.pre_depends.now (text-at 4), (text-has (codes "Depends") texts.depends.now (text-at 5), tt))
  kept-have Recommends = (text-has (codes "Pre-Depends") texts.pre_depends.now (text-at 4), (text-has (codes "Depends") texts.depends.now (text-at 5), (text-has (codes "Recommends") texts.recommends.now (text-at 6), tt)))

-- What is kept of a paragraph that was given.
use Rattle.std.proofs.Common.{◌≡◌, ℕ, true, false, List, sym, ap, ◌∙◌, subst}
use Rattle.std.proofs.lemmas.Bool.{false≢true}
use Rattle.std.specs.Prelude.{Vec}
use Rattle.std.specs.declared.alloc.Global.{Global}
use Rattle.deb_base.specs.declared.doc.Doc.TheVariants as docs
use Rattle.deb_syntax.specs.Answers.{Seen}
use Rattle.deb_syntax.specs.Fields.{Field}
use Rattle.deb_field.specs.Values.{ValueMeaning}
use Rattle.deb_control.specs.CheckedStates.{passing_judged}
use Rattle.deb_control.specs.FieldTexts.{HasTexts, KeepsTexts}
use Rattle.deb_control.specs.Paragraphs.{AreValuesOf}
use Rattle.deb_control.specs.ValueFiles.{ValueEntries}
use Rattle.deb_control.specs.Visiting.{VisitsValues}
use Rattle.deb_control.specs.declared.checked_view.CheckedView.{CheckedView}
use Rattle.deb_control.specs.declared.field_texts.FieldTexts.{FieldTexts}
use Rattle.deb_control.proofs.KeptTexts.{has-texts}
use Rattle.deb_control.proofs.PassingParagraphs.{values-passing}
use Rattle.deb_index.specs.Members.{doc_of, has_seen}
use Rattle.deb_index.specs.declared.members.Members.{Members}
use Rattle.deb_index.specs.declared.members.Members.TheVariants.{All, Installed}
use Rattle.deb_index.proofs.Installed.{same_has}
use Rattle.deb_unmet.specs.Paragraphs.{fields_in}
use Rattle.deb_unmet.specs.Parts.{GivesValues, IsPart}
use Rattle.deb_unmet.specs.declared.own_lines.Part.TheVariants.{Member, Other}

module _ {Kept : Type 0} (Holds : List Field → ValueEntries ValueMeaning → Kept → Type 0) (IsText : ValueEntries ValueMeaning → List ℕ → Type 0) (texts : FieldTexts) (view : CheckedView) (seen : Seen) (same : (passing_judged view).seen ≡ seen) where
  pub member_part : (members : Members) (kept : Kept) → ((values : ValueEntries ValueMeaning) → HasTexts texts values → Holds (fields_in view) values kept) → VisitsValues KeepsTexts texts (doc_of members) seen → has_seen members seen ≡ true → IsPart members Holds IsText seen (Member kept)
  member_part members kept holds visits has =
      let found = values-passing (doc_of members) seen visits.passes in
      let texts_are = has-texts texts (doc_of members) seen visits found.0 found.1 in
      record {
        values = found.0;
        are = found.1;
        holds = (same_has members seen visits.fields found.0 found.1 ∙ has, rw (ap (λ s. s.fields) same) at holds found.0 texts_are);
      }

  pub other_part : (members : Members) (text : Vec ℕ Global) → ((values : ValueEntries ValueMeaning) → GivesValues view texts values → IsText values text.items) → VisitsValues KeepsTexts texts (doc_of members) seen → has_seen members seen ≡ false → IsPart members Holds IsText seen (Other text)
  other_part All text is visits has = absurd (false≢true (sym has))
  other_part Installed text is visits has =
      let found = values-passing docs.Status seen visits.passes in
      let gives : GivesValues view texts found.0 = record {
        visits = subst (VisitsValues KeepsTexts texts docs.Status) (sym same) visits;
        are = subst (λ s. AreValuesOf docs.Status s found.0) (sym same) found.1;
      } in
      record { values = found.0; are = found.1; holds = (same_has Installed seen visits.fields found.0 found.1 ∙ has, is found.0 gives) }

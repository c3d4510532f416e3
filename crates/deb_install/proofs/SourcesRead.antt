-- What is kept of source packages that were given, and of a whole file.
use Rattle.std.proofs.Common.{◌≡◌, ℕ, List, [], ◌∷◌, ◌++◌, sym, subst}
use Rattle.deb_syntax.specs.Answers.{Seen}
use Rattle.deb_field.specs.Values.{ValueMeaning}
use Rattle.deb_control.specs.Documents.{Meaning}
use Rattle.deb_control.specs.FieldTexts.{HasTexts, KeepsTexts}
use Rattle.deb_control.specs.Pairs.{Pairwise}
use Rattle.deb_control.specs.Paragraphs.{AreValuesOf}
use Rattle.deb_control.specs.ValueFiles.{ValueEntries}
use Rattle.deb_control.specs.Visiting.{VisitsValues}
use Rattle.deb_control.specs.declared.field_texts.FieldTexts.{FieldTexts}
use Rattle.deb_control.proofs.GivenValues.{accepted-given, pairwise-push}
use Rattle.deb_control.proofs.KeptTexts.{has-texts}
use Rattle.deb_control.proofs.PassingParagraphs.{values-passing}
use Rattle.deb_control.proofs.ShownSoFar.{ShownAll}
use Rattle.deb_install.specs.KeptSources.{HoldsSource, HoldsSources}
use Rattle.deb_install.specs.SourceKinds.{doc_of}
use Rattle.deb_install.specs.declared.kept_source.KeptSource.{KeptSource}
use Rattle.deb_install.specs.declared.source_kind.SourceKind.{SourceKind}

pub record SourcesGiven (kind : SourceKind) (kept : List KeptSource) (given : List Seen) : Type 0 where
  pub meaning : Meaning
  pub are : Pairwise (AreValuesOf (doc_of kind)) given meaning
  pub holds : Pairwise (HoldsSource kind) meaning kept

pub none_given : (kind : SourceKind) (kept : List KeptSource) → kept ≡ [] → SourcesGiven kind kept []
none_given kind kept is = record { meaning = []; are = tt; holds = subst (Pairwise (HoldsSource kind) []) (sym is) tt }

pub one_given : (kind : SourceKind) (kept now : List KeptSource) (given : List Seen) (texts : FieldTexts) (seen : Seen) (source : KeptSource) → SourcesGiven kind kept given → VisitsValues KeepsTexts texts (doc_of kind) seen → ((values : ValueEntries ValueMeaning) → HasTexts texts values → HoldsSource kind values source) → now ≡ kept ++ source ∷ [] → SourcesGiven kind now (given ++ seen ∷ [])
one_given kind kept now given texts seen source so_far visits of_values is =
    let found = values-passing (doc_of kind) seen visits.passes in
    let has = has-texts texts (doc_of kind) seen visits found.0 found.1 in
    record {
      meaning = so_far.meaning ++ found.0 ∷ [];
      are = pairwise-push (AreValuesOf (doc_of kind)) given so_far.meaning seen found.0 so_far.are found.1;
      holds = subst (Pairwise (HoldsSource kind) (so_far.meaning ++ found.0 ∷ [])) (sym is)
          (pairwise-push (HoldsSource kind) so_far.meaning kept found.0 source so_far.holds (of_values found.0 has));
    }

pub all_given : (kind : SourceKind) (text : List ℕ) (kept : List KeptSource) (given : List Seen) → SourcesGiven kind kept given → ShownAll (doc_of kind) text given → HoldsSources kind text kept
all_given kind text kept given so_far shown = record {
  meaning = so_far.meaning;
  accepted = accepted-given (doc_of kind) text given so_far.meaning shown so_far.are;
  holds = so_far.holds;
}

-- Laws of the explanations of a file (this project's own).
use Rattle.std.specs.Prelude.{◌≡◌, ℕ, List}
use Rattle.deb_base.specs.declared.doc.Doc.{Doc}
use Rattle.deb_control.specs.AllRefusals.{refusals_of}
use Rattle.deb_control.specs.StreamLaws.{first_of}
use Rattle.deb_explain.specs.AllExplanations.{explanations_of, refusals_explained}
use Rattle.deb_explain.specs.Explanations.{explanation_of}

-- The refusals that are explained are those of the file.
abbrev pub EachHasOneExplanation : Type 0
EachHasOneExplanation =
    (doc : Doc) (text : List ℕ)
    → refusals_explained (explanations_of doc text) ≡ refusals_of doc text

-- What the first refusal is about, if there is one, is the explanation of the file.
abbrev pub FirstIsExplains : Type 0
FirstIsExplains =
    (doc : Doc) (text : List ℕ) → first_of (explanations_of doc text) ≡ explanation_of doc text

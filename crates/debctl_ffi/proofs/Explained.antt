-- The refusal of a file that is explained.
use Rattle.std.proofs.Common.{◌≡◌, ◌∙◌, ℕ, List, Option, Some, None, ap, refl, sym}
use Rattle.std.specs.Option.{option_map}
use Rattle.deb_base.specs.declared.doc.Doc.{Doc}
use Rattle.deb_base.specs.declared.refusal.Refusal.{Refusal}
use Rattle.deb_syntax.specs.Meaning.{Entries}
use Rattle.deb_control.specs.Documents.{refusal_of, rules_of}
use Rattle.deb_control.specs.Refusals.{outcome}
use Rattle.deb_control.specs.SeenRefusals.{first_seen_in}
use Rattle.deb_explain.specs.Explanations.{WhyRefused, explanation_of, why_refused}

refusal_back : (doc : Doc) (text : List ℕ) (passed : List Entries) (found : Option Refusal) → option_map (λ why. why.refusal) (option_map (why_refused doc) (first_seen_in (rules_of doc) text (record { passed = passed; refusal = found }))) ≡ found
refusal_back doc text passed None = refl
refusal_back doc text passed (Some refusal) = refl

-- it is the one that the explanation is of
pub refusal_explained : (doc : Doc) (text : List ℕ) (why : WhyRefused) → explanation_of doc text ≡ Some why → refusal_of doc text ≡ Some why.refusal
refusal_explained doc text why explained =
    let come = outcome (rules_of doc) text in
    sym (refusal_back doc text come.passed come.refusal) ∙ ap (option_map (λ t. t.refusal)) explained

use Rattle.std.proofs.Common.{ℕ, List, [], ◌∷◌, length, ap, ◌∙◌}
use Rattle.deb_unmet.specs.KeptParagraphs.{cut_texts}
use Rattle.deb_unmet.proofs.KeptParagraphs.{cut-joined}
use Rattle.deb_unmet.proofs.kept.KeptParagraph.of.Goals as goal

pub returns : goal.returns
returns c = λ values has.
    let texts = c.of-kept.result in
    let lens : List ℕ = length texts.name.now ∷ length texts.version.now ∷ length texts.spelled.now ∷ length texts.architecture.now ∷ length texts.pre_depends.now ∷ length texts.depends.now ∷ [] in
    record {
      texts =
          ap (λ l. cut_texts l c.in_ok-bytes.bytes.items) c.in_ok-lens.ensures
          ∙ ap (cut_texts lens) c.in_ok-bytes.ensures
          ∙ cut-joined (texts.name.now ∷ texts.version.now ∷ texts.spelled.now ∷ texts.architecture.now ∷ texts.pre_depends.now ∷ texts.depends.now ∷ []) texts.recommends.now
          ∙ c.of-kept.ensures values has;
      regular = has.regular;
    }

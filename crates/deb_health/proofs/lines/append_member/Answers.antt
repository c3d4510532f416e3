use Rattle.std.proofs.Common.{◌++◌, List, ℕ, append_assoc, refl, ap, ◌∙◌}
use Rattle.deb_relation.specs.Environments.{environment_of}
use Rattle.deb_index.specs.Indexes.{packages_of}
use Rattle.deb_index.proofs.Offered.{on_ok}
use Rattle.deb_unmet.specs.Fields.{environment_for, heading, paragraph_lines}
use Rattle.deb_unmet.specs.Paragraphs.{heading_in}
use Rattle.deb_unmet.specs.Scopes.{plain}
use Rattle.deb_unmet.specs.declared.asked.Asked.TheVariants.{Packages}
use Rattle.deb_unmet.specs.declared.paragraph.Paragraph.{Paragraph}
use Rattle.deb_unmet.proofs.ParagraphLines.{heading-of_texts}
use Rattle.deb_health.specs.Lines.{duplicate_lines, exclusion_lines}
use Rattle.deb_health.proofs.lines.append_member.Goals as goal

pub returns : goal.returns
returns c = λ fields values holds.
    let strength = c.args.set.now.strength in
    let environment = environment_of c.args.set.now.environment.now in
    let packages = packages_of c.args.set.now.index.now in
    let number = c.args.number in
    let out = c.args.out.now.items in
    let texts = c.line_texts.ensures.texts fields values strength holds.unmet in
    let p : Paragraph = record { asked = Packages strength; number = number; texts = record { ref_ptr = (0, 0); now = c.line_texts.result } } in
    let v = c.line_texts.result.version.now in
    let needs : List ℕ → List ℕ = λ version. paragraph_lines (Packages strength) environment (plain packages) number version values in
    let excludes : List ℕ → List ℕ = λ h. exclusion_lines (environment_for (Packages strength) environment values) environment.native packages h values in
    let repeats : List ℕ → List ℕ = λ h. duplicate_lines environment.native packages h number in
    let h = heading_in p in
    let first = c.in_ok-append_lines.ensures values texts in
    let second = c.in_ok-append_negatives.ensures fields values texts holds refl in
    on_ok
    (λ third.
    third
    ∙ ap (λ o. o ++ repeats h) (second ∙ ap (λ o. o ++ excludes h) first)
    ∙ append_assoc (out ++ needs v) (excludes h) (repeats h)
    ∙ append_assoc out (needs v) (excludes h ++ repeats h)
    ∙ ap (λ x. out ++ (needs v ++ (excludes x ++ repeats x))) (heading-of_texts p values texts)
    ∙ ap (λ x. out ++ (needs x ++ (excludes (heading (Packages strength) number x values) ++ repeats (heading (Packages strength) number x values)))) (c.line_texts.ensures.version fields values holds.unmet))
    c.append_duplicates.result c.append_duplicates.ensures

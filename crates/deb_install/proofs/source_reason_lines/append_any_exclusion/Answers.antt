use Rattle.std.proofs.Common.{◌≡◌, ◌++◌, codes, ap, ◌∙◌}
use Rattle.std.specs.List.{slice_index}
use Rattle.deb_health.specs.Lines.{line_at}
use Rattle.deb_index.proofs.Offered.{on_ok}
use Rattle.deb_index.specs.ReportText.{canonical_version, package_line}
use Rattle.deb_solve.specs.Reasons.{excluded}
use Rattle.deb_install.specs.ReasonLines.{exclusion_line}
use Rattle.deb_install.specs.SourceExplaining.{setting_for, universe_for}
use Rattle.deb_install.specs.SourceReasonLines.{source_with}
use Rattle.deb_install.proofs.SourceFactLines.{package-exclusion, source-exclusion}
use Rattle.deb_install.proofs.source_reason_lines.append_any_exclusion.Goals as goal

pub returns-then-number-eq0 : goal.returns-then-number-eq0
returns-then-number-eq0 c = λ kind meaning others holds.
    let explaining = c.args.explaining.now in
    let s = setting_for explaining meaning in
    let u = universe_for explaining in
    let out = c.args.out.now.items in
    let by = c.args.by in
    let other : c.number_at-excluded.result ≡ excluded u by c.args.at = c.number_at-excluded.ensures ∙ ap (λ l. slice_index l c.args.at) c.row_of.ensures in
    on_ok
    (λ is. is
    ∙ ap (λ n. out ++ line_at (λ p. line_at (exclusion_line p) s.packages n) s.packages by) other
    ∙ ap (λ l. out ++ l) (package-exclusion kind s others u by c.args.at c.number_of_source-number.result c.number_of_source-number.ensures c.if-number-eq0.true))
    c.append_exclusion.result c.append_exclusion.ensures

pub returns-else-number-eq0 : goal.returns-else-number-eq0
returns-else-number-eq0 c = λ kind meaning others holds.
    let explaining = c.args.explaining.now in
    let s = setting_for explaining meaning in
    let u = universe_for explaining in
    let out = c.args.out.now.items in
    let by = c.args.by in
    let number = c.number_of_source-number.result in
    let other : c.number_at-excluded.result ≡ excluded u by c.args.at = c.number_at-excluded.ensures ∙ ap (λ l. slice_index l c.args.at) c.row_of.ensures in
    on_ok
    (λ is. is
    ∙ ap (λ n. out ++ line_at (λ p. source_with kind others number (codes " excludes" ++ package_line canonical_version p)) s.packages n) other
    ∙ ap (λ l. out ++ l) (source-exclusion kind s others u by c.args.at number c.number_of_source-number.ensures c.if-number-eq0.false))
    c.append_build_exclusion.result (c.append_build_exclusion.ensures kind others holds.sources)

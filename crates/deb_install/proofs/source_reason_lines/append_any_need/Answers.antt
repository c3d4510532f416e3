use Rattle.std.proofs.Common.{◌++◌, ap, ◌∙◌}
use Rattle.deb_index.proofs.Offered.{on_ok}
use Rattle.deb_install.specs.SourceExplaining.{setting_for, universe_for}
use Rattle.deb_install.proofs.SourceFactLines.{package-need, source-need}
use Rattle.deb_install.proofs.source_reason_lines.append_any_need.Goals as goal

pub returns-then-number-eq0 : goal.returns-then-number-eq0
returns-then-number-eq0 c = λ kind meaning others holds.
    let explaining = c.args.explaining.now in
    on_ok
    (λ is. is ∙ ap (λ l. c.args.out.now.items ++ l) (package-need kind (setting_for explaining meaning) others (universe_for explaining) c.args.member c.args.at c.number_of_source-number.result c.number_of_source-number.ensures c.if-number-eq0.true))
    c.append_need.result (c.append_need.ensures meaning holds.packages)

pub returns-else-number-eq0 : goal.returns-else-number-eq0
returns-else-number-eq0 c = λ kind meaning others holds.
    let explaining = c.args.explaining.now in
    on_ok
    (λ is. is ∙ ap (λ l. c.args.out.now.items ++ l) (source-need kind (setting_for explaining meaning) others (universe_for explaining) c.args.member c.args.at c.number_of_source-number.result c.number_of_source-number.ensures c.if-number-eq0.false))
    c.append_build_need.result (c.append_build_need.ensures kind meaning others holds)

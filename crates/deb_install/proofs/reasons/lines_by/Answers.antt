use Rattle.std.proofs.Common.{refl, ap, ◌∙◌}
use Rattle.deb_index.specs.Indexes.{packages_of}
use Rattle.deb_relation.specs.Environments.{environment_of}
use Rattle.deb_install.specs.Answers.{answer_at, answer_lines}
use Rattle.deb_install.specs.Installing.{asks_by, names_by}
use Rattle.deb_install.proofs.FileAnswers.{if-value}
use Rattle.deb_install.proofs.ReasonedLines.{lines-with, lines-without}
use Rattle.deb_install.proofs.reasons.lines_by.Goals as goal

pub returns-then-request : goal.returns-then-request
returns-then-request c = λ meaning holds lists.
    if-value _ _
    (λ text has. lines-with (asks_by c.args.request.now (environment_of c.args.environment.now)) (packages_of c.args.index.now) meaning c.args.every.now text.items c.if-request.true has)
    c.with_reasons.result (c.with_reasons.ensures meaning holds lists refl)

pub returns : goal.returns
returns c = λ meaning holds lists.
    let asks = asks_by c.args.request.now (environment_of c.args.environment.now) in
    let packages = packages_of c.args.index.now in
    if-value _ _
    (λ text is. lines-without asks packages meaning c.args.every.now text.items c.in_ok-one.one.items c.if-request.false (c.in_ok-one.ensures meaning holds lists)
    (is
    ∙ ap (λ n. answer_lines n (answer_at c.args.every.now c.deref.result.now) packages) c.asked.ensures
    ∙ ap (λ v. answer_lines (names_by asks) (answer_at c.args.every.now v) packages) c.deref.ensures.value))
    c.lines_of.result c.lines_of.ensures

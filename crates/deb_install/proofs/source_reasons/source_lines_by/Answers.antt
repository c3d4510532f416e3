use Rattle.std.proofs.Common.{ap, ◌∙◌}
use Rattle.deb_index.specs.Indexes.{packages_of}
use Rattle.deb_relation.specs.Environments.{environment_of}
use Rattle.deb_install.specs.Answers.{answer_at}
use Rattle.deb_install.specs.SourceAnswers.{source_lines}
use Rattle.deb_install.specs.Universes.{terms_in}
use Rattle.deb_install.proofs.FileAnswers.{if-value}
use Rattle.deb_install.proofs.ReasonedSources.{lines-with, lines-without}
use Rattle.deb_install.proofs.source_reasons.source_lines_by.Goals as goal

pub returns-then-request : goal.returns-then-request
returns-then-request c = λ kind meaning others holds lists sources one.
    let listing = c.args.listing.now in
    if-value _ _
    (λ text has. lines-with kind (terms_in listing) (environment_of listing.environment.now) (packages_of listing.index.now) meaning others c.args.every.now text.items c.args.request.now.reasons c.if-request.true has)
    c.with_reasons.result (c.with_reasons.ensures kind meaning others holds lists sources one)

pub returns : goal.returns
returns c = λ kind meaning others holds lists sources one.
    let listing = c.args.listing.now in
    let verdicts = c.in_ok-one.one.items in
    if-value _ _
    (λ text is. lines-without kind (terms_in listing) (environment_of listing.environment.now) (packages_of listing.index.now) meaning others c.args.every.now text.items c.args.request.now.reasons verdicts c.if-request.false
    (rw one at c.in_ok-one.ensures kind meaning others holds lists sources)
    (is ∙ ap (λ v. source_lines kind (answer_at c.args.every.now v) others) c.deref.ensures.value))
    c.lines_of_sources.result (c.lines_of_sources.ensures kind others sources)

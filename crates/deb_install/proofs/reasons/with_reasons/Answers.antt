use Rattle.std.proofs.Common.{[], IfOk, ap, ◌∙◌, subst}
use Rattle.deb_index.specs.Indexes.{packages_of}
use Rattle.deb_relation.specs.Environments.{environment_of}
use Rattle.deb_relation.specs.Views.{names_of}
use Rattle.deb_install.specs.Answers.{answer_at, answer_lines}
use Rattle.deb_install.specs.Explaining.{HasReasons}
use Rattle.deb_install.specs.Universes.{terms_in}
use Rattle.deb_install.proofs.FileAnswers.{if-value}
use Rattle.deb_install.proofs.ReasonedLines.{has-no-reasons}
use Rattle.deb_install.proofs.reasons.with_reasons.Goals as goal

pub returns-in_ok-essential-in-Some : goal.returns-in_ok-essential-in-Some
returns-in_ok-essential-in-Some c = λ meaning holds lists one.
    let listing = c.args.listing.now in
    let is = rw c.in-Some.is at c.in_ok-universe.ensures meaning holds in
    subst (λ names. IfOk c.explained_by.result (λ text. HasReasons (terms_in listing) (environment_of listing.environment.now) (packages_of listing.index.now) meaning names c.args.every.now text.items)) c.asked.ensures
    (c.explained_by.ensures meaning
    (record {
      holds = holds;
      essential = ap names_of c.deref.ensures.value ∙ c.in_ok-essential-in-Some.ensures meaning holds;
    })
    lists one is)

pub returns-in-None : goal.returns-in-None
returns-in-None c = λ meaning holds lists one.
    let packages = packages_of c.args.listing.now.index.now in
    if-value _ _
    (λ text is. has-no-reasons (terms_in c.args.listing.now) (environment_of c.args.listing.now.environment.now) packages meaning _ c.args.every.now text.items
    (is ∙ ap (λ n. answer_lines n (answer_at c.args.every.now []) packages) c.asked-in-None.ensures))
    c.lines_of.result c.lines_of.ensures

use Rattle.std.proofs.Common.{sym, ◌∙◌}
use Rattle.deb_relation.specs.Environments.{environment_of}
use Rattle.deb_index.specs.AnswerStores.{HasAnswers}
use Rattle.deb_index.specs.Indexes.{packages_of}
use Rattle.deb_index.proofs.Answered.{none_answered}
use Rattle.deb_index.proofs.TextPieces.{groups_all, groups_more, groups_none}
use Rattle.deb_index.proofs.report.Report.of.Goals as goal

pub loop-rest-init : goal.loop-rest-init
loop-rest-init c = λ m regular is.
    groups_none (λ done. HasAnswers (environment_of c.args.environment.now) (packages_of c.args.index.now) done c.in_ok-answers.answers) m c.args.text.now regular is (none_answered (environment_of c.args.environment.now) (packages_of c.args.index.now) c.in_ok-answers.answers c.in_ok-answers.ensures)

pub loop-rest-preserved : goal.loop-rest-preserved
loop-rest-preserved c = λ m regular is.
    let environment = environment_of c.args.environment.now in
    let packages = packages_of c.args.index.now in
    groups_more (λ done. HasAnswers environment packages done c.loop-rest.answers) (λ done. HasAnswers environment packages done c.append_answer.new.answers) m c.loop-rest.rest.now c.cut_group.result.1.now (c.loop-rest.invariant m regular is) (sym c.is_empty.ensures ∙ c.loop-rest-test.true) c.cut_group.ensures.others
    (λ g gs done good text has. c.in_ok-append_answer.ensures.appended g good (c.cut_group.ensures.first g gs good text) done has)

pub returns-clause-report : goal.returns-clause-report
returns-clause-report c = λ m regular is.
    (groups_all (λ done. HasAnswers (environment_of c.args.environment.now) (packages_of c.args.index.now) done c.loop-rest.answers) m c.loop-rest.rest.now (c.loop-rest.invariant m regular is) (sym c.is_empty.ensures ∙ c.loop-rest-test.false)).answers

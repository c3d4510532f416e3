use Rattle.std.proofs.lemmas.Result.{err_from_is_err_and}
use Rattle.deb_index.specs.Questions.{question}
use Rattle.deb_relation.specs.Views.{names_of}
use Rattle.debctl_ffi.specs.Queries.{kept_by}
use Rattle.debctl_ffi.proofs.Refusals.{good_words, index_refused, words_refused}
use Rattle.debctl_ffi.proofs.Reports.{answers_on, faults_on}
use Rattle.debctl_ffi.proofs.report.report_on.Goals as goal

pub returns-in_err-question-clause-fault : goal.returns-in_err-question-clause-fault
returns-in_err-question-clause-fault c =
    let p = err_from_is_err_and c.from_residual.result c.from_residual.ensures.1 in
    rw (p.1, p.2)
    (words_refused (question c.args.target.now (names_of c.args.profiles.now) c.args.relation.now) c.args.index.now _ c.in_err-question.ensures.fault)

pub returns-in_err-index-clause-fault : goal.returns-in_err-index-clause-fault
returns-in_err-index-clause-fault c =
    let p = err_from_is_err_and c.from_residual-in_err-index.result c.from_residual-in_err-index.ensures.1 in
    rw (p.1, p.2)
    (index_refused (question c.args.target.now (names_of c.args.profiles.now) c.args.relation.now) c.args.index.now _
    (good_words _ c.in_ok-question.question c.in_ok-question.ensures.ok) c.in_err-index.ensures.fault)

pub returns-clause-ok : goal.returns-clause-ok
returns-clause-ok c =
    answers_on c.args.detail (question c.args.target.now (names_of c.args.profiles.now) c.args.relation.now) c.args.index.now c.in_ok-question.question (kept_by c.in_ok-index.index) _
    c.in_ok-question.ensures.ok c.in_ok-index.ensures.ok c.in_ok-index.ensures.counts c.report_over.ensures.ok

pub returns-clause-fault : goal.returns-clause-fault
returns-clause-fault c =
    faults_on (question c.args.target.now (names_of c.args.profiles.now) c.args.relation.now) c.args.index.now c.in_ok-question.question (kept_by c.in_ok-index.index) _
    c.in_ok-question.ensures.ok c.in_ok-index.ensures.ok c.report_over.ensures.fault

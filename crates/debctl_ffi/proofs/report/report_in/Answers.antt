use Rattle.std.proofs.lemmas.Result.{err_from_is_err_and}
use Rattle.deb_index.specs.Questions.{question}
use Rattle.deb_relation.specs.Views.{names_of}
use Rattle.debctl_ffi.specs.Queries.{kept_by}
use Rattle.debctl_ffi.proofs.Reports.{answers_kept, faults_kept, words_refused_kept}
use Rattle.debctl_ffi.proofs.report.report_in.Goals as goal

pub returns-in_err-question-clause-fault : goal.returns-in_err-question-clause-fault
returns-in_err-question-clause-fault c =
    let p = err_from_is_err_and c.from_residual.result c.from_residual.ensures.1 in
    rw (p.1, p.2)
    (words_refused_kept (question c.args.target.now (names_of c.args.profiles.now) c.args.relation.now) _ c.in_err-question.ensures.fault)

pub returns-clause-ok : goal.returns-clause-ok
returns-clause-ok c =
    answers_kept c.args.detail (question c.args.target.now (names_of c.args.profiles.now) c.args.relation.now) (kept_by c.args.index.now) c.in_ok-question.question _
    c.in_ok-question.ensures.ok c.report_over.ensures.ok

pub returns-clause-fault : goal.returns-clause-fault
returns-clause-fault c =
    faults_kept (question c.args.target.now (names_of c.args.profiles.now) c.args.relation.now) c.in_ok-question.question _
    c.in_ok-question.ensures.ok c.report_over.ensures.fault

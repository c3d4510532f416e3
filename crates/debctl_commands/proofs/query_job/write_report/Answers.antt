use Rattle.std.proofs.lemmas.Result.{err_from_is_err_and}
use Rattle.debctl_commands.specs.QueryJob.{question_of}
use Rattle.debctl_commands.proofs.QueryReports.{good_words, not_refused, words_refused}
use Rattle.debctl_commands.proofs.query_job.write_report.Goals as goal

pub returns-in_err-question-clause-queries : goal.returns-in_err-question-clause-queries
returns-in_err-question-clause-queries g c =
    let p = err_from_is_err_and c.from_residual.result c.from_residual.ensures.1 in
    rw (p.1, p.2)
    (words_refused c.args.words.now.members c.args.words.now.options (question_of c.args.words.now c.args.relation.now) (g.R.Source.left c.args.first.now) (g.R.Source.failures c.args.first.now) g.W.Sink.held g.W.Sink.failures c.args.out.now _
    c.in_err-question.ensures.fault)

pub returns-clause-queries : goal.returns-clause-queries
returns-clause-queries g c =
    c.write_answer.ensures.queries (question_of c.args.words.now c.args.relation.now) c.in_ok-question.ensures.ok

pub returns-clause-first_untouched_if_refused : goal.returns-clause-first_untouched_if_refused
returns-clause-first_untouched_if_refused g c = λ bad.
    let asked = question_of c.args.words.now c.args.relation.now in
    absurd (not_refused asked (good_words asked c.in_ok-question.question c.in_ok-question.ensures.ok) bad)

use Rattle.std.proofs.Common.{Err, inr, refl}
use Rattle.deb_control.specs.declared.side.Side.TheVariants.{First}
use Rattle.debctl_commands.specs.QueryJob.{question_of}
use Rattle.debctl_commands.proofs.RelationFiles.{read_ends, words_of_read}
use Rattle.debctl_commands.proofs.query_from.run_query_from.Goals as goal

pub returns-in-Ok-clause-reports_answer : goal.returns-in-Ok-clause-reports_answer
returns-in-Ok-clause-reports_answer g c =
    read_ends c.args.words.now.members c.args.words.now.options (question_of c.args.words.now) _ _ _ _ c.in-Ok.relation.items c.as_slice.result.now c.in-Ok.ensures.ok c.as_slice.ensures.value c.in-Ok.ensures.counts_failure c.run_query.result c.run_query.ensures.reports_answer

pub returns-in-Ok-clause-second_untouched_if_refused : goal.returns-in-Ok-clause-second_untouched_if_refused
returns-in-Ok-clause-second_untouched_if_refused g c = λ bad.
    c.run_query.ensures.first_untouched_if_refused
    (words_of_read (question_of c.args.words.now) (g.R.Source.left c.args.first.now) c.in-Ok.relation.items c.as_slice.result.now c.in-Ok.ensures.ok c.as_slice.ensures.value bad)

pub returns-in-Err-clause-reports_answer : goal.returns-in-Err-clause-reports_answer
returns-in-Err-clause-reports_answer g c = (
  Err (record { side = First; fault = c.in-Err.fault }),
  inr (record {
    fault = c.in-Err.fault;
    is = refl;
    fault_is = c.in-Err.ensures.fault;
    counted = c.in-Err.ensures.counts_failure;
    untouched = refl;
    unwritten = refl;
  }),
  c.report_fault.ensures,
)

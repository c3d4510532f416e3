use Rattle.std.proofs.Common.{Err, inl, inr, refl, rules}
use Rattle.deb_base.specs.declared.fault.Fault.TheVariants.{Memory}
use Rattle.debctl_commands.specs.BuildJob.{source_words_of}
use Rattle.debctl_commands.specs.SideAnswers.{of_words}
use Rattle.debctl_commands.proofs.BuildReports.{three_if_first, three_if_out, three_if_second}
use Rattle.debctl_commands.proofs.build_job.run_buildable.Goals as goal

-- out of memory for the names
pub returns-in_default-clause-reports_answer : goal.returns-in_default-clause-reports_answer
returns-in_default-clause-reports_answer g c = (
  Err (of_words Memory),
  inl (record {
    fault = Memory;
    is = refl;
    fault_is = search rules;
    first_untouched = refl;
    second_untouched = refl;
    unwritten = refl;
  }),
  c.report_fault.ensures,
)

pub returns-in-Ok-parse_environment-clause-reports_answer : goal.returns-in-Ok-parse_environment-clause-reports_answer
returns-in-Ok-parse_environment-clause-reports_answer g c =
    let e = c.run_beside.ensures.ends in
    let asked = c.request_for.ensures in
    let made = c.in-Ok-parse_environment.ensures in
    (e.0, inr (made.0, rw (asked.kind, asked.essential, asked.without, asked.reasons, c.deref-in-Ok-parse_environment.ensures.value, c.in-Ok.ensures, c.deref.ensures.value, made.1) at e.1), e.2)

pub returns-in-Ok-parse_environment-clause-status_3_if_read_failed : goal.returns-in-Ok-parse_environment-clause-status_3_if_read_failed
returns-in-Ok-parse_environment-clause-status_3_if_read_failed g c =
    three_if_first (source_words_of c.args.words.now) _ _ _ _ c.run_beside.result (returns-in-Ok-parse_environment-clause-reports_answer g c)

pub returns-in-Ok-parse_environment-clause-status_3_if_second_read_failed : goal.returns-in-Ok-parse_environment-clause-status_3_if_second_read_failed
returns-in-Ok-parse_environment-clause-status_3_if_second_read_failed g c =
    three_if_second (source_words_of c.args.words.now) _ _ _ _ c.run_beside.result (returns-in-Ok-parse_environment-clause-reports_answer g c)

pub returns-in-Ok-parse_environment-clause-status_3_if_write_failed : goal.returns-in-Ok-parse_environment-clause-status_3_if_write_failed
returns-in-Ok-parse_environment-clause-status_3_if_write_failed g c =
    three_if_out (source_words_of c.args.words.now) _ _ _ _ c.run_beside.result (returns-in-Ok-parse_environment-clause-reports_answer g c)

pub returns-clause-reports_answer : goal.returns-clause-reports_answer
returns-clause-reports_answer g c = (
  Err (of_words c.in-Err.fault),
  inl (record {
    fault = c.in-Err.fault;
    is = refl;
    fault_is = search rules;
    first_untouched = refl;
    second_untouched = refl;
    unwritten = refl;
  }),
  c.report_fault-in-Err.ensures,
)

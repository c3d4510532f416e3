use Rattle.std.proofs.Common.{Err, inl, inr, refl, rules}
use Rattle.deb_base.specs.declared.fault.Fault.TheVariants.{Memory}
use Rattle.debctl_commands.specs.InstallJob.{package_words_of}
use Rattle.debctl_commands.proofs.WitnessReports.{three_if_first, three_if_out}
use Rattle.debctl_commands.proofs.witness_job.run_witness.Goals as goal

-- out of memory for the names
pub returns-in_default-clause-reports_answer : goal.returns-in_default-clause-reports_answer
returns-in_default-clause-reports_answer g c = λ second. (
  Err Memory,
  inl (record {
    fault = Memory;
    is = refl;
    fault_is = search rules;
    untouched = refl;
    unwritten = refl;
  }),
  c.report_fault.ensures,
)

pub returns-in-Ok-parse_environment-clause-reports_answer : goal.returns-in-Ok-parse_environment-clause-reports_answer
returns-in-Ok-parse_environment-clause-reports_answer g c =
    let e = c.run_in_environment.ensures.ends in
    let asked = c.request_for-request.ensures in
    let made = c.in-Ok-parse_environment.ensures in λ second.
    (e.0, inr (made.0, rw (asked.members, asked.strength, asked.essential, asked.without, asked.names, asked.reasons, c.deref-in-Ok-parse_environment.ensures.value, c.deref-in-Ok-parse_environment-2.ensures.value, c.in-Ok.ensures.asked, c.in-Ok.ensures.without, c.deref.ensures.value, made.1) at e.1), e.2)

pub returns-in-Ok-parse_environment-clause-status_3_if_read_failed : goal.returns-in-Ok-parse_environment-clause-status_3_if_read_failed
returns-in-Ok-parse_environment-clause-status_3_if_read_failed g c =
    three_if_first (package_words_of c.args.target.now c.args.asked) _ _ _ c.run_in_environment.result (returns-in-Ok-parse_environment-clause-reports_answer g c)

pub returns-in-Ok-parse_environment-clause-status_3_if_write_failed : goal.returns-in-Ok-parse_environment-clause-status_3_if_write_failed
returns-in-Ok-parse_environment-clause-status_3_if_write_failed g c =
    three_if_out (package_words_of c.args.target.now c.args.asked) _ _ _ c.run_in_environment.result (returns-in-Ok-parse_environment-clause-reports_answer g c)

pub returns-clause-reports_answer : goal.returns-clause-reports_answer
returns-clause-reports_answer g c = λ second. (
  Err c.in-Err.fault,
  inl (record {
    fault = c.in-Err.fault;
    is = refl;
    fault_is = search rules;
    untouched = refl;
    unwritten = refl;
  }),
  c.report_fault-in-Err.ensures,
)

use Rattle.std.proofs.Common.{◌≡◌, subst, sym}
use Rattle.debctl_args.specs.declared.jobs.Job.{Job}
use Rattle.debctl_commands.specs.Running.{IfRefusedWords}
use Rattle.debctl_commands.proofs.JobReports.{reported_as}
use Rattle.debctl_commands.proofs.command.run_on_packages.Goals as goal

pub returns-in-Healthy-clause-first_untouched_if_refused : goal.returns-in-Healthy-clause-first_untouched_if_refused
returns-in-Healthy-clause-first_untouched_if_refused g c =
    subst (λ (asked : Job). IfRefusedWords asked (c.run_healthy.new.first ≡ c.args.first.now)) (sym c.in-Healthy.is)
    (rw c.as_str.ensures.value at c.run_healthy.ensures.first_untouched_if_refused)

pub returns-in-Healthy-clause-reports_answer : goal.returns-in-Healthy-clause-reports_answer
returns-in-Healthy-clause-reports_answer g c second =
    reported_as c.args.job.now _ c.in-Healthy.is _ _ _ _ c.run_healthy.result (rw (c.as_str.ensures.value, c.index_members.ensures) at (c.run_healthy.ensures.reports_answer second))

pub returns-in-Installable-clause-first_untouched_if_refused : goal.returns-in-Installable-clause-first_untouched_if_refused
returns-in-Installable-clause-first_untouched_if_refused g c =
    subst (λ (asked : Job). IfRefusedWords asked (c.run_installable.new.first ≡ c.args.first.now)) (sym c.in-Installable.is)
    (rw c.as_str-in-Installable.ensures.value at c.run_installable.ensures.first_untouched_if_refused)

pub returns-in-Installable-clause-reports_answer : goal.returns-in-Installable-clause-reports_answer
returns-in-Installable-clause-reports_answer g c second =
    let asked = c.install_asked-asked.ensures in
    reported_as c.args.job.now _ c.in-Installable.is _ _ _ _ c.run_installable.result (rw (c.as_str-in-Installable.ensures.value, asked.members, asked.strength, asked.terms, asked.names, asked.reasons, c.deref.ensures.value) at (c.run_installable.ensures.reports_answer second))

pub returns-in-Witness-clause-first_untouched_if_refused : goal.returns-in-Witness-clause-first_untouched_if_refused
returns-in-Witness-clause-first_untouched_if_refused g c =
    subst (λ (asked : Job). IfRefusedWords asked (c.run_witness.new.first ≡ c.args.first.now)) (sym c.in-Witness.is)
    (rw c.as_str-in-Witness.ensures.value at c.run_witness.ensures.first_untouched_if_refused)

pub returns-in-Witness-clause-reports_answer : goal.returns-in-Witness-clause-reports_answer
returns-in-Witness-clause-reports_answer g c second =
    let asked = c.install_asked-asked-in-Witness.ensures in
    reported_as c.args.job.now _ c.in-Witness.is _ _ _ _ c.run_witness.result (rw (c.as_str-in-Witness.ensures.value, asked.members, asked.strength, asked.terms, asked.names, asked.reasons, c.deref-in-Witness.ensures.value) at (c.run_witness.ensures.reports_answer second))

use Rattle.std.proofs.Common.{◌==◌, cond, length, ap, ◌∙◌}
use Rattle.deb_relation.specs.Environments.{environment_of}
use Rattle.deb_index.specs.Indexes.{packages_of}
use Rattle.deb_index.specs.declared.verdict.Verdict.TheVariants.{Ignored, Met, Unmet}
use Rattle.deb_index.proofs.Answered.{answered, verdict-is}
use Rattle.deb_index.proofs.report.append_answer.Goals as goal

pub returns-clause-verdict : goal.returns-clause-verdict
returns-clause-verdict c = λ g regular is.
    verdict-is (environment_of c.args.environment.now) (packages_of c.args.index.now) g c.in_ok-applies.applies c.in_ok-applies.numbers.items c.verdict_of-verdict.result (c.in_ok-applies.ensures.applies g regular is) (c.in_ok-applies.ensures.numbers g regular is)
    (c.verdict_of-verdict.ensures ∙ ap (λ l. cond c.in_ok-applies.applies (cond (length l == 0) Unmet Met) Ignored) c.deref.ensures.value)

pub returns-clause-appended : goal.returns-clause-appended
returns-clause-appended c = λ g regular is groups has.
    answered (environment_of c.args.environment.now) (packages_of c.args.index.now) groups g c.args.answers.now c.push.new.self c.verdict_of-verdict.result c.in_ok-applies.numbers.items
    has (c.in_ok-applies.ensures.numbers g regular is) (returns-clause-verdict c g regular is) (rw (c.deref-2.ensures.value, is) at c.in_ok-push.ensures)

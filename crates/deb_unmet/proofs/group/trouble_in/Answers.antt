use Rattle.std.proofs.Common.{cond, None, sym, ap, ◌∙◌}
use Rattle.deb_relation.specs.Environments.{environment_of}
use Rattle.deb_unmet.specs.Scopes.{scope_of}
use Rattle.deb_unmet.proofs.OldIndexes.{none-in, none-is, some-in}
use Rattle.deb_unmet.proofs.group.trouble_in.Goals as goal

pub returns-then-is_none : goal.returns-then-is_none
returns-then-is_none c = λ g regular is.
    none-in (scope_of c.args.question.now) (environment_of c.args.question.now.environment.now) g _ (c.in_ok-why.ensures g regular is) (none-is c.in_ok-why.why c.is_none.result c.is_none.ensures c.if-is_none.true)

pub returns-then-met : goal.returns-then-met
returns-then-met c = λ g regular is.
    ap (λ m. cond m c.in_ok-why.why None) (sym c.if-met.true)
    ∙ some-in (scope_of c.args.question.now) (environment_of c.args.question.now.environment.now) g _ c.in_ok-why.why (c.in_ok-why.ensures g regular is) (c.in_ok-met.ensures g regular is)

pub returns-else-met : goal.returns-else-met
returns-else-met c = λ g regular is.
    ap (λ m. cond m c.in_ok-why.why None) (sym c.if-met.false)
    ∙ some-in (scope_of c.args.question.now) (environment_of c.args.question.now.environment.now) g _ c.in_ok-why.why (c.in_ok-why.ensures g regular is) (c.in_ok-met.ensures g regular is)

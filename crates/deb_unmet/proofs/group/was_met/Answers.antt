use Rattle.std.proofs.Common.{is_none, sym, ap, ◌∙◌}
use Rattle.deb_relation.specs.Environments.{environment_of}
use Rattle.deb_index.specs.Indexes.{packages_of}
use Rattle.deb_unmet.specs.Scopes.{old_packages}
use Rattle.deb_unmet.specs.Troubles.{was_met}
use Rattle.deb_unmet.proofs.OldIndexes.{met-exactly, none-said}
use Rattle.deb_unmet.proofs.group.was_met.Goals as goal

pub returns : goal.returns
returns c = λ g regular is.
    let environment = environment_of c.args.question.now.environment.now in
    none-said c.in_ok-why.why c.is_none.result c.is_none.ensures ∙ ap is_none (c.in_ok-why.ensures g regular is)
    ∙ met-exactly environment (packages_of c.in-Some.index.now) g
    ∙ ap (λ unless. was_met (old_packages unless) environment g) (sym c.in-Some.is)

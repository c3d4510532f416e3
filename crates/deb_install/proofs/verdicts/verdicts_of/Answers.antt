use Rattle.deb_install.specs.Universes.{setting_of}
use Rattle.deb_install.proofs.FileAnswers.{if-value}
use Rattle.deb_install.proofs.TrueVerdicts.{verdicts-in}
use Rattle.deb_install.proofs.verdicts.verdicts_of.Goals as goal

pub returns-in-Some : goal.returns-in-Some
returns-in-Some c = λ meaning holds lists.
    if-value _ _ (λ found are. verdicts-in (setting_of c.args.listing.now meaning) c.in-Some.universe found.items (rw c.in-Some.is at c.in_ok-universe.ensures meaning holds) lists are)
    c.solve.result c.solve.ensures

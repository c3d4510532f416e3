use Rattle.std.proofs.Common.{length}
use Rattle.deb_control.proofs.GivenValues.{pairwise-length}
use Rattle.deb_install.specs.KeptSources.{HoldsSource}
use Rattle.deb_install.specs.Universes.{setting_of}
use Rattle.deb_install.proofs.FileAnswers.{if-value}
use Rattle.deb_install.proofs.SourceVerdicts.{verdicts-of-sources}
use Rattle.deb_install.proofs.builds.verdicts_of.Goals as goal

pub returns-in-Some : goal.returns-in-Some
returns-in-Some c = λ kind meaning others holds lists sources.
    if-value _ _ (λ last are. verdicts-of-sources (setting_of c.args.listing.now meaning) others c.in-Some.universe last.items (length c.args.sources.now) (rw c.in-Some.is at c.in_ok-universe.ensures kind meaning others holds sources) lists are (pairwise-length (HoldsSource kind) others c.args.sources.now sources))
    c.last_verdicts.result c.last_verdicts.ensures

-- Verdicts on a universe are true of the packages.
use Rattle.std.proofs.Common.{List}
use Rattle.deb_control.specs.Pairs.{Pairwise}
use Rattle.deb_index.specs.Listing.{Lists}
use Rattle.deb_solve.specs.Verdicts.{AreVerdicts}
use Rattle.deb_solve.specs.declared.universe.Universe.{Universe}
use Rattle.deb_solve.specs.declared.verdict.Verdict.{Verdict}
use Rattle.deb_install.specs.Answers.{AreVerdictsIn}
use Rattle.deb_install.specs.Universes.{IsUniverseOf, Setting}
use Rattle.deb_install.proofs.Decided.{in-installable, installable-in}

pub verdicts-in : (s : Setting) (u : Universe) (verdicts : List Verdict) → IsUniverseOf s u → Pairwise Lists s.values s.packages → AreVerdicts u verdicts → AreVerdictsIn s.readings s.terms s.environment s.packages s.values verdicts
verdicts-in s u verdicts is lists are = record {
  yes = λ number some most at. in-installable s u is lists number some most (are.are_true.yes number at);
  no = λ number some most at installable. are.are_true.no number at (installable-in s u is lists number installable);
}

use Rattle.std.proofs.Common.{codes, ◌∙◌}
use Rattle.deb_install.proofs.kept_source.KeptBuild.of.Goals as goal

pub returns : goal.returns
returns c = λ values has. record {
  depends = record { is = c.in_ok-depends.ensures ∙ has.relation (codes "Build-Depends"); regular = has.regular (codes "Build-Depends") };
  depends_arch = record { is = c.in_ok-depends_arch.ensures ∙ has.relation (codes "Build-Depends-Arch"); regular = has.regular (codes "Build-Depends-Arch") };
  depends_indep = record { is = c.in_ok-depends_indep.ensures ∙ has.relation (codes "Build-Depends-Indep"); regular = has.regular (codes "Build-Depends-Indep") };
  conflicts = record { is = c.in_ok-conflicts.ensures ∙ has.relation (codes "Build-Conflicts"); regular = has.regular (codes "Build-Conflicts") };
  conflicts_arch = record { is = c.in_ok-conflicts_arch.ensures ∙ has.relation (codes "Build-Conflicts-Arch"); regular = has.regular (codes "Build-Conflicts-Arch") };
  conflicts_indep = record { is = c.in_ok-conflicts_indep.ensures ∙ has.relation (codes "Build-Conflicts-Indep"); regular = has.regular (codes "Build-Conflicts-Indep") };
}

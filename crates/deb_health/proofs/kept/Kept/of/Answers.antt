use Rattle.std.proofs.Common.{codes, ◌∙◌}
use Rattle.deb_base.specs.Kinds.{known_row}
use Rattle.deb_health.proofs.kept.Kept.of.Goals as goal

pub returns : goal.returns
unfolding known_row
returns c = λ values has. record {
  unmet = c.in_ok-unmet.ensures values has;
  conflicts = record { is = c.in_ok-conflicts.ensures ∙ (c.relation.ensures ∙ has.relation (codes "Conflicts")); regular = has.regular (codes "Conflicts") };
  breaks = record { is = c.in_ok-breaks.ensures ∙ (c.relation-2.ensures ∙ has.relation (codes "Breaks")); regular = has.regular (codes "Breaks") };
}

use Rattle.deb_control.proofs.Common.{refl}
use Rattle.deb_control.proofs.paragraph_check.visit_as_source.Goals as goal

pub returns-in_ok-visit_value-in-Ok-clause-visits : goal.returns-in_ok-visit_value-in-Ok-clause-visits
returns-in_ok-visit_value-in-Ok-clause-visits g c = record {
  value = _;
  spells = (_, refl, c.in-Ok.ensures.ok);
  measured = c.in_ok-visit_value-in-Ok.ensures.measured;
  visits = c.in_ok-visit_value-in-Ok.ensures.visits;
}

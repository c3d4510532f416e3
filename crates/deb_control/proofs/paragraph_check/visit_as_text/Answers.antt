use Rattle.deb_control.proofs.Common.{refl}
use Rattle.deb_control.proofs.paragraph_check.visit_as_text.Goals as goal

pub returns : goal.returns
returns g c = record {
  value = _;
  spells = (_, refl, c.new-text.ensures);
  measured = c.text_field_len.ensures;
  visits = c.in_ok-visit.ensures;
}

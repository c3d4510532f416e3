use Rattle.deb_field.specs.Shown.{text_bytes}
use Rattle.deb_control.proofs.paragraph_check.text_field_len.Goals as goal

pub returns : goal.returns
returns c = c.field_len.ensures (text_bytes c.args.text.now) c.canon_len.ensures.is c.is_spaced_text.ensures

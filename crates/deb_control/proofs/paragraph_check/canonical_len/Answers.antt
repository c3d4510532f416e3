use Rattle.deb_control.proofs.Common.{value_meaning, value_text}
use Rattle.deb_control.proofs.paragraph_check.canonical_len.Goals as goal

pub returns : goal.returns
returns c = c.field_len.ensures (value_text (value_meaning c.args.value.now)) c.canon_len.ensures.is c.is_spaced.ensures

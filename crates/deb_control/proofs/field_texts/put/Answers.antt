use Rattle.std.proofs.Common.{sym}
use Rattle.std.proofs.lemmas.List.{set_past}
use Rattle.deb_control.proofs.field_texts.put.Goals as goal

pub returns-else-row-spans : goal.returns-else-row-spans
returns-else-row-spans c = sym (set_past c.args.spans.now c.args.row c.args.span c.if-row-spans.false)

use Rattle.std.proofs.Common.{sym}
use Rattle.deb_field.proofs.LineBegins.{text_alone}
use Rattle.deb_field.proofs.value.Value.begins_with_newline.Goals as goal

pub returns-in_default : goal.returns-in_default
returns-in_default c = sym (text_alone c.args.self.now c.in_default.not-Text)

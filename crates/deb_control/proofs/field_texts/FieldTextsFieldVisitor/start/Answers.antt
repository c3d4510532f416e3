use Rattle.std.proofs.Common.{refl}
use Rattle.deb_control.proofs.KeptTexts.{texts-none}
use Rattle.deb_control.proofs.field_texts.FieldTextsFieldVisitor.start.Goals as goal

pub returns : goal.returns
returns c = texts-none _ refl

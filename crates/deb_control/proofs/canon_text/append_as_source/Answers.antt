use Rattle.deb_control.proofs.Common.{refl}
use Rattle.deb_base.specs.declared.kind.Kind.TheVariants as kinds
use Rattle.deb_control.proofs.AppendedFields.{value-appended}
use Rattle.deb_control.proofs.canon_text.append_as_source.Goals as goal

pub returns-in-Ok-clause-good : goal.returns-in-Ok-clause-good
returns-in-Ok-clause-good c = value-appended kinds.Source c.args.body.now _ (_, refl, c.in-Ok.ensures.ok) _ _ _ _ c.append_good.ensures.appended refl

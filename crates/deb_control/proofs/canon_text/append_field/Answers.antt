use Rattle.deb_control.proofs.Common.{refl}
use Rattle.deb_base.specs.declared.kind.Kind.TheVariants as kinds
use Rattle.deb_control.proofs.AppendedFields.{value-appended}
use Rattle.deb_control.proofs.canon_text.append_field.Goals as goal

pub returns-in-Text-clause-good : goal.returns-in-Text-clause-good
returns-in-Text-clause-good c = rw c.in-Text.is (value-appended kinds.Text c.args.field.now.body.now _ (_, refl, c.new.ensures) _ _ _ _ c.append_good.ensures.appended c.in_ok-append_name.ensures)

pub returns-in-Ok-clause-good : goal.returns-in-Ok-clause-good
returns-in-Ok-clause-good c = rw c.in-Line.is (value-appended kinds.Line c.args.field.now.body.now _ (_, refl, c.in-Ok.ensures.ok) _ _ _ _ c.append_good-in-Ok.ensures.appended c.in_ok-append_name.ensures)

pub returns-in-Ok-parse-clause-good : goal.returns-in-Ok-parse-clause-good
returns-in-Ok-parse-clause-good c = rw c.in-Name.is (value-appended kinds.Name c.args.field.now.body.now _ (_, refl, c.in-Ok-parse.ensures.ok) _ _ _ _ c.append_good-in-Ok-parse.ensures.appended c.in_ok-append_name.ensures)

pub returns-in-Ok-parse-2-clause-good : goal.returns-in-Ok-parse-2-clause-good
returns-in-Ok-parse-2-clause-good c = rw c.in-Number.is (value-appended kinds.Number c.args.field.now.body.now _ (_, refl, c.in-Ok-parse-2.ensures.ok) _ _ _ _ c.append_good-in-Ok-parse-2.ensures.appended c.in_ok-append_name.ensures)

pub returns-in-Ok-parse-3-clause-good : goal.returns-in-Ok-parse-3-clause-good
returns-in-Ok-parse-3-clause-good c = rw c.in-Architecture.is (value-appended kinds.Architecture c.args.field.now.body.now _ (_, refl, c.in-Ok-parse-3.ensures.ok) _ _ _ _ c.append_good-in-Ok-parse-3.ensures.appended c.in_ok-append_name.ensures)

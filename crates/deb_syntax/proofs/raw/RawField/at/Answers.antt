use Rattle.deb_syntax.proofs.Common.{subst, sym, IsBody, field_at}
use Rattle.deb_syntax.proofs.FieldTests.{is_field-body}
use Rattle.deb_syntax.proofs.raw.RawField.at.Goals as goal

pub returns-clause-body : goal.returns-clause-body
returns-clause-body c = subst IsBody (sym c.trimmed.ensures) (is_field-body (field_at c.args.text.now c.args.span) c.requires.field)

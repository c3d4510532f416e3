use Rattle.deb_control.proofs.Common.{◌∙◌, ap, fields_of}
use Rattle.deb_control.proofs.RequiredFields.{have_rows-required}
use Rattle.deb_control.specs.Required.{have_rows}
use Rattle.deb_control.proofs.paragraph_check.has_required.Goals as goal

pub returns : goal.returns
returns c = c.has_fields.ensures ∙ ap (have_rows (fields_of c.args.paragraph.now)) c.required_fields.ensures ∙ have_rows-required c.args.doc (fields_of c.args.paragraph.now)

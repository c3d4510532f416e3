use Rattle.deb_control.proofs.Common.{ap, ◌∙◌, fields_of, no_field}
use Rattle.std.proofs.Common.{unwrap_or}
use Rattle.std.proofs.lemmas.Option.{unwrap_or-slice_get}
use Rattle.deb_control.proofs.canon_text.name_at.Goals as goal

pub returns-in-None : goal.returns-in-None
returns-in-None c =
    ap (λ field. (unwrap_or field no_field).name) c.in-None.ensures.field
    ∙ ap (λ field. field.name) (unwrap_or-slice_get (fields_of c.args.paragraph.now) c.args.number no_field)

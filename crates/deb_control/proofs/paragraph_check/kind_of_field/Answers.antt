use Rattle.deb_control.proofs.Common.{sym, ◌∙◌, kind_of_canonical_name}
use Rattle.deb_control.proofs.paragraph_check.kind_of_field.Goals as goal

pub returns : goal.returns
returns c =
    let field = c.args.field.now in
    c.kind.ensures field.name.now (sym field.named) ∙ sym (kind_of_canonical_name c.args.doc field.name.now)

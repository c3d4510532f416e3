use Rattle.std.proofs.Common.{◌≡◌, ◌∙◌, length}
use Rattle.deb_syntax.specs.Raw.{field_of}
use Rattle.debctl_ffi.proofs.FieldTables.{one_pushed}
use Rattle.debctl_ffi.proofs.field.Tables.push_field.Goals as goal

pub returns : goal.returns
returns c =
    let name : c.in_ok-name.name ≡ length c.args.self.now.names.items = c.in_ok-name.ensures ∙ c.len.ensures ∙ c.args.self.now.names.ok.0 in
    let value : c.in_ok-value.value ≡ length c.args.self.now.values.items = c.in_ok-value.ensures ∙ c.len-2.ensures ∙ c.args.self.now.values.ok.0 in
    let span = rw (name, value, c.in_ok-paragraph.ensures, c.in_ok-line.ensures, c.in_ok-name_length.ensures, c.in_ok-value_length.ensures) at c.in_ok-push.ensures.items in
    λ shown has. one_pushed shown (c.args.number, field_of c.args.field.now) _ _ _ _ _ _ has span c.in_ok-append_text.ensures c.in_ok-append_text-2.ensures

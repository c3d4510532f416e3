use Rattle.deb_control.proofs.Common.{◌∙◌, sym, rules, tests, YieldsList-from_slice, all_from_yields_List, fields_of}
use Rattle.std.proofs.lemmas.List.Folds.{list_all-map}
use Rattle.deb_base.specs.KnownFields.{row_of}
use Rattle.deb_syntax.specs.Raw.{has_field_in}
use Rattle.deb_control.proofs.paragraph_check.has_fields.Goals as goal

pub returns : goal.returns
returns c =
    all_from_yields_List (λ id. has_field_in (row_of id) (fields_of c.args.paragraph.now)) c.all.new.self _ _ c.all.ensures.ran
    (YieldsList-from_slice c.args.fields.now cc) (λ x r q k. search (rules, tests))
    ∙ sym (list_all-map (λ row. has_field_in row (fields_of c.args.paragraph.now)) row_of c.args.fields.now)

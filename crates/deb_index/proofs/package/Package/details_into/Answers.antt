use Rattle.std.proofs.Common.{◌≡◌, ◌++◌, codes, sym, ap, subst, ◌∙◌}
use Rattle.std.specs.Prelude.{OnOk}
use Rattle.deb_version.specs.Canonical.{version_text}
use Rattle.deb_control.specs.Canonical.{field_text, paragraph_text}
use Rattle.deb_index.specs.Kept.{listed_of}
use Rattle.deb_index.specs.KeptTexts.{multi_arch_entries, provides_entries}
use Rattle.deb_index.proofs.KeptProvides.{fields-appended}
use Rattle.deb_index.proofs.package.Package.details_into.Goals as goal

pub returns : goal.returns
returns c =
    let p = listed_of c.args.self.now in
    let two = c.in_ok-append_multi_arch.ensures ∙ ap (λ l. l ++ paragraph_text (multi_arch_entries p.multi_arch)) c.in_ok-append_field.ensures in
    let three = c.in_ok-append_field-2.ensures ∙ ap (λ l. l ++ field_text (codes "Package", p.name)) two in
    let four = c.in_ok-append_provides.ensures ∙ ap (λ l. l ++ paragraph_text (provides_entries p.provisions)) three in
    let whole = ap (λ t. c.append_provides.new.out.items ++ field_text (codes "Version", t)) (sym c.args.self.now.canonical)
    ∙ ap (λ l. l ++ field_text (codes "Version", version_text p.version)) four
    ∙ fields-appended c.args.out.now.items p in
    subst (λ l. OnOk c.append_field-3.result (c.append_field-3.new.out.items ≡ l)) whole c.append_field-3.ensures

use Rattle.std.proofs.Common.{◌≡◌, ◌++◌, codes, sym, ap, subst, ◌∙◌, append-nil}
use Rattle.std.specs.Prelude.{OnOk}
use Rattle.deb_field.specs.Flags.{multi_arch_text}
use Rattle.deb_control.specs.Canonical.{field_text, paragraph_text}
use Rattle.deb_index.specs.KeptTexts.{multi_arch_entries}
use Rattle.deb_index.proofs.kept_text.append_multi_arch.Goals as goal

pub returns-in-Some : goal.returns-in-Some
returns-in-Some c =
    let o = c.args.out.now.items in
    let whole = ap (λ t. o ++ field_text (codes "Multi-Arch", t)) c.word.ensures
    ∙ ap (λ l. o ++ l) (sym (append-nil (field_text (codes "Multi-Arch", multi_arch_text c.in-Some.word))))
    ∙ ap (λ v. o ++ paragraph_text (multi_arch_entries v)) (sym c.in-Some.is) in
    subst (λ l. OnOk c.append_field.result (c.append_field.new.out.items ≡ l)) whole c.append_field.ensures

use Rattle.std.proofs.Common.{◌≡◌, ◌∷◌, ◌++◌, map, codes, sym, ap, subst, ◌∙◌, append-nil}
use Rattle.std.specs.List.{flat_map}
use Rattle.std.specs.Prelude.{OnOk}
use Rattle.deb_control.specs.Canonical.{field_text, paragraph_text}
use Rattle.deb_index.specs.Entries.{provision_at}
use Rattle.deb_index.specs.KeptEntries.{entry_text, later_entry}
use Rattle.deb_index.specs.KeptTexts.{provides_entries, provides_text}
use Rattle.deb_index.proofs.KeptProvides.{texts-later}
use Rattle.deb_index.proofs.kept_text.append_provides.Goals as goal

pub returns : goal.returns
returns c =
    let o = c.args.out.now.items in
    let text = c.args.provisions.now.text.now in
    let first = c.in-Some.first.now in
    let others = c.in-Some.others.now in
    let one = c.in_ok-append_entry.ensures ∙ ap (λ l. l ++ entry_text text first) c.new-canonical.ensures.items in
    let canonical = c.deref.ensures.value ∙ c.in_ok-append_others.ensures ∙ ap (λ l. l ++ flat_map (later_entry text) others) one
    ∙ ap (λ l. entry_text text first ++ l) (texts-later text others) in
    let whole = ap (λ t. o ++ field_text (codes "Provides", t)) canonical
    ∙ ap (λ l. o ++ l) (sym (append-nil (field_text (codes "Provides", provides_text (map (provision_at text) (first ∷ others))))))
    ∙ ap (λ entries. o ++ paragraph_text (provides_entries (map (provision_at text) entries))) (sym c.in-Some.ensures.cases.0) in
    subst (λ l. OnOk c.append_field.result (c.append_field.new.out.items ≡ l)) whole c.append_field.ensures

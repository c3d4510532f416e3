use Rattle.std.proofs.Common.{◌≡◌, ◌==◌, ◌++◌, length, true, false, codes, sym, ap, ◌∙◌}
use Rattle.deb_version.specs.Canonical.{version_text}
use Rattle.deb_version.specs.Places.{version_in}
use Rattle.deb_version.specs.Version.{meaning_of}
use Rattle.deb_index.specs.Entries.{entry_name, entry_version}
use Rattle.deb_index.proofs.KeptProvides.{four-appended, text-bare, text-versioned}
use Rattle.deb_index.proofs.kept_text.append_entry.Goals as goal

pub returns-then-is_empty : goal.returns-then-is_empty
returns-then-is_empty c =
    let o = c.args.out.now.items in
    let n = entry_name c.args.text.now c.args.entry.now in
    let v = entry_version c.args.text.now c.args.entry.now in
    let none : (length v == 0) ≡ true = ap (λ t. length t == 0) (sym c.version-version.ensures) ∙ sym c.is_empty.ensures ∙ c.if-is_empty.true in
    c.in_ok-extend_from_slice.ensures.items ∙ ap (λ l. o ++ l) (c.name.ensures ∙ sym (text-bare n v none))

pub returns : goal.returns
returns c =
    let o = c.args.out.now.items in
    let n = entry_name c.args.text.now c.args.entry.now in
    let v = entry_version c.args.text.now c.args.entry.now in
    let some : (length v == 0) ≡ false = ap (λ t. length t == 0) (sym c.version-version.ensures) ∙ sym c.is_empty.ensures ∙ c.if-is_empty.false in
    let named = c.in_ok-extend_from_slice.ensures.items ∙ ap (λ l. o ++ l) c.name.ensures in
    let opened = c.in_ok-extend_from_slice-2.ensures.items ∙ ap (λ l. l ++ codes " (= ") named in
    let written = c.in_ok-canon_into.ensures.ok ∙ ap (λ l. l ++ version_text (meaning_of c.version_of.result)) opened
    ∙ ap (λ m. ((o ++ n) ++ codes " (= ") ++ version_text m) (c.version_of.ensures ∙ ap version_in c.version-version.ensures) in
    c.in_ok-extend_from_slice-3.ensures.items ∙ ap (λ l. l ++ codes ")") written
    ∙ four-appended o n (codes " (= ") (version_text (version_in v)) (codes ")") ∙ ap (λ l. o ++ l) (sym (text-versioned n v some))

use Rattle.std.proofs.Common.{◌++◌, ◌∷◌, [], codes, ap, ◌∙◌}
use Rattle.deb_control.specs.FieldWords.{groups_of, value_under}
use Rattle.deb_index.proofs.Offered.{on_ok}
use Rattle.deb_install.proofs.ExcludedRows.{three-fields}
use Rattle.deb_install.proofs.source_rows.append_excludes.Goals as goal

pub returns : goal.returns
returns c = λ values holds.
    let first = c.in_ok-append_exclusions.ensures (groups_of (value_under (codes "Build-Conflicts") values)) holds.conflicts.regular (c.deref.ensures.value ∙ holds.conflicts.is) in
    let second = c.in_ok-append_exclusions-2.ensures (groups_of (value_under (codes "Build-Conflicts-Arch") values)) holds.conflicts_arch.regular (c.deref-2.ensures.value ∙ holds.conflicts_arch.is) in
    let third = c.in_ok-append_exclusions-3.ensures (groups_of (value_under (codes "Build-Conflicts-Indep") values)) holds.conflicts_indep.regular (c.deref-3.ensures.value ∙ holds.conflicts_indep.is) in
    let row = three-fields c.new-row.result.items _ _ _ _ _ _ c.new-row.ensures.items first second third in
    on_ok (λ is. is ∙ ap (λ numbers. c.args.rows.now ++ numbers ∷ []) (c.deref-4.ensures.value ∙ row))
    c.push_row.result c.push_row.ensures.pushed

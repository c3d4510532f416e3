use Rattle.std.proofs.Common.{◌++◌, ◌∷◌, [], codes, ap, ◌∙◌}
use Rattle.deb_control.specs.FieldWords.{groups_of, value_under}
use Rattle.deb_index.proofs.Offered.{on_ok}
use Rattle.deb_install.proofs.ExcludedRows.{fields-then}
use Rattle.deb_install.proofs.universe.append_excludes.Goals as goal

pub returns : goal.returns
returns c = λ fields values holds.
    let first = c.in_ok-append_exclusions.ensures (groups_of (value_under (codes "Conflicts") values)) holds.conflicts.regular (c.deref.ensures.value ∙ holds.conflicts.is) in
    let second = c.in_ok-append_exclusions-2.ensures (groups_of (value_under (codes "Breaks") values)) holds.breaks.regular (c.deref-2.ensures.value ∙ holds.breaks.is) in
    let row = fields-then c.new-row.result.items _ _ _ _ _ _ c.new-row.ensures.items first second c.in_ok-append_duplicates.ensures in
    on_ok (λ is. is ∙ ap (λ numbers. c.args.rows.now ++ numbers ∷ []) (c.deref-3.ensures.value ∙ row))
    c.push_row.result c.push_row.ensures.pushed

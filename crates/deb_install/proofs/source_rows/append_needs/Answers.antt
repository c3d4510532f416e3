use Rattle.std.proofs.Common.{◌++◌, ◌∷◌, [], ap, ◌∙◌}
use Rattle.deb_index.proofs.Offered.{on_ok}
use Rattle.deb_install.proofs.NeededRows.{needs-pushed}
use Rattle.deb_install.proofs.source_rows.append_needs.Goals as goal

pub returns-clause-appended : goal.returns-clause-appended
returns-clause-appended c = λ environment values has knows.
    let needs = c.in_ok-needs.ensures environment values has knows in
    on_ok (λ is. needs-pushed c.args.needing.now environment _ _ c.in_ok-needs.needs.items _ needs.appends needs.knows (is ∙ ap (λ row. c.args.building.now.needs ++ row ∷ []) c.deref.ensures.value))
    c.push_row.result c.push_row.ensures.pushed

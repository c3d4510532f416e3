use Rattle.std.proofs.Common.{◌++◌, ◌∷◌, [], ap, ◌∙◌}
use Rattle.deb_index.proofs.Offered.{on_ok}
use Rattle.deb_install.proofs.NeededRows.{needs-pushed, with-terms}
use Rattle.deb_install.proofs.Noted.{knows-grown}
use Rattle.deb_install.proofs.universe.append_needs.Goals as goal

pub returns-clause-appended : goal.returns-clause-appended
returns-clause-appended c = λ environment values rows has knows are.
    let needs = c.in_ok-needs.ensures environment values has knows in
    let left = c.in_ok-append_left_out.ensures in
    let appends = with-terms _ _ _ _ _ _ c.args.shared.now _ _ rows needs.appends left c.in_ok-extend_from_slice.ensures.items are in
    let grown = knows-grown c.args.needing.now environment _ _ _ left.grows needs.knows in
    on_ok (λ is. needs-pushed c.args.needing.now environment _ _ _ _ appends grown (is ∙ ap (λ row. c.args.building.now.needs ++ row ∷ []) c.deref.ensures.value))
    c.push_row.result c.push_row.ensures.pushed

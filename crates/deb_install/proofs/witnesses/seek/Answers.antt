use Rattle.std.proofs.Common.{◌∙◌, ap}
use Rattle.deb_index.specs.Indexes.{packages_of}
use Rattle.deb_relation.specs.Environments.{environment_of}
use Rattle.deb_solve.specs.Health.{is_among}
use Rattle.deb_install.specs.Installing.{asks_by}
use Rattle.deb_install.specs.Witnesses.{set_lines}
use Rattle.deb_install.proofs.FilesSought.{has-no-set, has-set}
use Rattle.deb_install.proofs.witnesses.seek.Goals as goal

pub returns-in_ok-lines_of_set-in-Set : goal.returns-in_ok-lines_of_set-in-Set
returns-in_ok-lines_of_set-in-Set c = λ meaning holds lists.
    has-set (asks_by c.args.request.now (environment_of c.args.environment.now)) (packages_of c.args.index.now) meaning c.in-Set.members.items _
    (rw c.in-Set.is at c.in_ok-members.ensures meaning holds lists)
    (c.in_ok-lines_of_set-in-Set.ensures ∙ ap (λ members. set_lines (is_among members) (packages_of c.args.index.now)) c.deref.ensures.value)

pub returns-in_ok-lines_by-in-Refused : goal.returns-in_ok-lines_by-in-Refused
returns-in_ok-lines_by-in-Refused c = λ meaning holds lists.
    let asks = asks_by c.args.request.now (environment_of c.args.environment.now) in
    let packages = packages_of c.args.index.now in
    has-no-set asks packages meaning c.in-Refused.every.items _ (rw c.in-Refused.is at c.in_ok-members.ensures meaning holds lists)
    (rw c.deref-in-Refused.ensures.value at c.in_ok-lines_by-in-Refused.ensures meaning holds lists)

use Rattle.std.proofs.Common.{OnOk, [], ◌∷◌, sym, ap, ◌∙◌, subst}
use Rattle.deb_relation.specs.Environments.{environment_of}
use Rattle.deb_index.specs.Indexes.{packages_of}
use Rattle.deb_install.specs.Building.{AppendsRows}
use Rattle.deb_install.specs.Rows.{group_rows}
use Rattle.deb_install.proofs.Appended.{rows-each, rows-if-sure}
use Rattle.deb_install.proofs.needs.append_group.Goals as goal

pub returns-then-branch : goal.returns-then-branch
returns-then-branch c = λ g regular is.
    let needing = c.args.needing.now in
    let environment = environment_of needing.environment.now in
    let packages = packages_of needing.index.now in
    let sure = sym (c.in_ok-some_surely_applies.ensures g regular is) ∙ c.if-branch.true in
    subst (λ rows. OnOk c.append_row.result (AppendsRows c.args.groups.now.rows c.append_row.new.groups.rows c.args.out.now.items c.append_row.new.out.items rows))
    (ap (λ row. row ∷ []) (c.deref.ensures.value ∙ c.in_ok-row.ensures g regular is) ∙ sym (rows-if-sure needing.readings environment packages g sure))
    c.append_row.ensures

pub returns-in-Every : goal.returns-in-Every
returns-in-Every c = λ g regular is.
    let needing = c.args.needing.now in
    let environment = environment_of needing.environment.now in
    let packages = packages_of needing.index.now in
    let none = sym (c.in_ok-some_surely_applies.ensures g regular is) ∙ c.if-branch.false in
    subst (λ rows. OnOk c.append_each.result (AppendsRows c.args.groups.now.rows c.append_each.new.groups.rows c.args.out.now.items c.append_each.new.out.items rows))
    (sym (rows-each environment packages g none) ∙ ap (λ r. group_rows r environment packages g) (sym c.in-Every.is))
    (c.append_each.ensures g regular is)

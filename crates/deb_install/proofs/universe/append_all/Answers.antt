use Rattle.std.proofs.Common.{sym, subst}
use Rattle.deb_install.specs.Building.{AreNumbersOf}
use Rattle.deb_install.specs.Universes.{setting_of, shared_rows}
use Rattle.deb_install.proofs.Noted.{known-none}
use Rattle.deb_install.proofs.Universes.{first_rows}
use Rattle.deb_install.proofs.universe.append_all.Goals as goal

pub returns : goal.returns
returns c = λ meaning holds first.
    let s = setting_of c.args.listing.now meaning in
    let shared = c.in_ok-shared.ensures meaning holds in
    c.append_packages.ensures meaning holds
    (record {
      rows = first_rows s c.args.building.now.needs c.essential_groups.new.groups.rows c.args.building.now.excludes first.needs first.excludes;
      known = known-none s.readings s.environment s.packages c.essential_groups.new.groups.rows c.args.building.now.known first.known;
    })
    (subst (λ numbers. AreNumbersOf c.essential_groups.new.groups.rows numbers (shared_rows s)) (sym (c.deref.ensures.value)) (subst (λ numbers. AreNumbersOf c.essential_groups.new.groups.rows numbers (shared_rows s)) (sym shared.appended) shared.are))

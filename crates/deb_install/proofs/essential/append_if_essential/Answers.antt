use Rattle.std.proofs.Common.{OnOk, sym, ◌∙◌, subst}
use Rattle.deb_relation.specs.Environments.{environment_of}
use Rattle.deb_relation.specs.Views.{names_of}
use Rattle.deb_index.specs.Indexes.{packages_of}
use Rattle.deb_install.specs.Building.{AppendsRows}
use Rattle.deb_install.proofs.Appended.{appends-none}
use Rattle.deb_install.proofs.EssentialRows.{essential-known, row-not, row-there}
use Rattle.deb_install.proofs.essential.append_if_essential.Goals as goal

pub returns-then-is_essential : goal.returns-then-is_essential
returns-then-is_essential c = λ values holds.
    let listing = c.args.listing.now in
    let without = names_of listing.without.now in
    let native = (environment_of listing.environment.now).native in
    let has = c.line_texts-texts.ensures.texts holds.fields values listing.strength holds.holds.unmet in
    let is = sym (essential-known without native values c.args.kept.now.is_marked _ _ holds.marked has.name has.architecture) ∙ sym c.is_essential.ensures ∙ c.if-is_essential.true in
    subst (λ rows. OnOk c.append_name.result (AppendsRows c.args.groups.now.rows c.append_name.new.groups.rows c.args.out.now.items c.append_name.new.out.items rows))
    (row-there without native (packages_of listing.index.now) values _ is has.name) c.append_name.ensures

pub returns-else-is_essential : goal.returns-else-is_essential
returns-else-is_essential c = λ values holds.
    let listing = c.args.listing.now in
    let without = names_of listing.without.now in
    let native = (environment_of listing.environment.now).native in
    let has = c.line_texts-texts.ensures.texts holds.fields values listing.strength holds.holds.unmet in
    let is = sym (essential-known without native values c.args.kept.now.is_marked _ _ holds.marked has.name has.architecture) ∙ sym c.is_essential.ensures ∙ c.if-is_essential.false in
    subst (AppendsRows c.args.groups.now.rows c.args.groups.now.rows c.args.out.now.items c.args.out.now.items)
    (row-not without native (packages_of listing.index.now) values is) (appends-none c.args.groups.now.rows c.args.out.now.items)

use Rattle.std.proofs.Common.{codes, sym, ◌∙◌}
use Rattle.deb_control.specs.FieldWords.{word_under}
use Rattle.deb_relation.specs.Environments.{environment_of}
use Rattle.deb_relation.specs.Views.{names_of}
use Rattle.deb_install.specs.Terms.{is_essential}
use Rattle.deb_install.proofs.EssentialRows.{essential-known}
use Rattle.deb_install.proofs.RowTexts.{names-kept, names-pushed}
use Rattle.deb_install.proofs.essential_names.push_if_essential.Goals as goal

pub returns-in_ok-push : goal.returns-in_ok-push
returns-in_ok-push c = λ values holds.
    let listing = c.args.listing.now in
    let without = names_of listing.without.now in
    let native = (environment_of listing.environment.now).native in
    let has = c.line_texts-texts.ensures.texts holds.fields values listing.strength holds.holds.unmet in
    let is = sym (essential-known without native values c.args.kept.now.is_marked _ _ holds.marked has.name has.architecture) ∙ sym c.is_essential.ensures ∙ c.if-is_essential.true in
    names-pushed c.args.out.now.items c.line_texts-texts.result.name (is_essential without native values) (word_under (codes "Package") values) c.push.new.self.items c.in_ok-push.ensures.items is has.name

pub returns-else-is_essential : goal.returns-else-is_essential
returns-else-is_essential c = λ values holds.
    let listing = c.args.listing.now in
    let without = names_of listing.without.now in
    let native = (environment_of listing.environment.now).native in
    let has = c.line_texts-texts.ensures.texts holds.fields values listing.strength holds.holds.unmet in
    let is = sym (essential-known without native values c.args.kept.now.is_marked _ _ holds.marked has.name has.architecture) ∙ sym c.is_essential.ensures ∙ c.if-is_essential.false in
    names-kept c.args.out.now.items (is_essential without native values) (word_under (codes "Package") values) is

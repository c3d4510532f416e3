use Rattle.std.proofs.Common.{rules, ◌≡◌, map, ap, ◌∙◌}
use Rattle.std.specs.List.{flat_map}
use Rattle.deb_control.specs.FieldWords.{groups_of, value_under}
use Rattle.deb_relation.specs.Environments.{environment_of}
use Rattle.deb_relation.specs.Texts.{group_text}
use Rattle.deb_unmet.specs.Asked.{fields_with}
use Rattle.deb_unmet.specs.Fields.{environment_for, own_environment, own_or}
use Rattle.deb_unmet.specs.declared.asked.Asked.TheVariants.{Packages}
use Rattle.deb_install.specs.Explaining.{sure_groups}
use Rattle.deb_install.proofs.FileAnswers.{if-value}
use Rattle.deb_install.proofs.row_texts.texts_of_groups.Goals as goal

pub returns : goal.returns
returns c = λ values has.
    let strength = c.args.listing.now.strength in
    let environment = environment_of c.args.listing.now.environment.now in
    let own0 : environment_of c.own_or-own.result.now ≡ own_or (own_environment (Packages strength) environment c.args.texts.now.architecture.now) environment = search rules in
    let own : environment_of c.own_or-own.result.now ≡ environment_for (Packages strength) environment values =
    own0 ∙ ap (λ a. own_or (own_environment (Packages strength) environment a) environment) has.architecture in
    let groups = flat_map (λ field. groups_of (value_under field values)) (fields_with strength) in
    if-value _ _ (λ found are. are ∙ ap (λ e. map group_text (sure_groups e groups)) own)
    c.sure_texts.result (c.sure_texts.ensures values has)

use Rattle.std.proofs.Common.{◌++◌, drop, take-append-drop, sym, ap, ◌∙◌}
use Rattle.std.specs.Option.{option_map}
use Rattle.deb_relation.specs.Environments.{environment_of}
use Rattle.deb_relation.specs.Views.{bound_of}
use Rattle.deb_index.specs.Indexes.{packages_of}
use Rattle.deb_unmet.proofs.PlainGroups.{plainly_met}
use Rattle.deb_unmet.proofs.plain.is_plainly_met.Goals as goal

pub returns-then-is_package_name : goal.returns-then-is_package_name
returns-then-is_package_name c = λ group regular is met.
    let text = c.args.group.now in
    let n = c.len_before_space.result in
    let cut = sym (take-append-drop n text) ∙ ap (λ t. t ++ drop n text) (sym c.split_at.ensures.front) ∙ ap (λ t. c.split_at.result.0.now ++ t) (sym c.split_at.ensures.back) in
    plainly_met c.split_at.result.0.now c.split_at.result.1.now (option_map bound_of c.in-Some.bound) (sym c.is_package_name.ensures ∙ c.if-is_package_name.true) c.in-Some.ensures
    (environment_of c.args.question.now.environment.now) (packages_of c.args.question.now.index.now) text group regular is cut (c.first_meets.ensures met)

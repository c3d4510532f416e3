use Rattle.std.proofs.Common.{◌&&◌, cond, sym, ap, ◌∙◌}
use Rattle.std.specs.List.{list_any}
use Rattle.deb_relation.specs.Applying.{applies}
use Rattle.deb_relation.specs.Environments.{environment_of}
use Rattle.deb_relation.specs.Groups.{group_of}
use Rattle.deb_relation.specs.Views.{alternative_of}
use Rattle.deb_relation.proofs.Mapped.{any-map}
use Rattle.deb_index.specs.Indexes.{packages_of}
use Rattle.deb_index.specs.Meeting.{meets}
use Rattle.deb_index.specs.declared.verdict.Verdict.TheVariants.{Met, Unmet}
use Rattle.deb_index.proofs.SomeMeets.{verdict_met}
use Rattle.deb_index.proofs.index.Index.verdict.Goals as goal

pub returns-then-is_met : goal.returns-then-is_met
returns-then-is_met c =
    let environment = environment_of c.args.environment.now in
    let packages = packages_of c.args.self.now in
    verdict_met environment packages (group_of c.args.group.now) Met c.some_applies.result c.is_met.result (rw c.alternatives.ensures at c.some_applies.ensures) c.if-not-some_applies.false
    (c.is_met.ensures ∙ any-map alternative_of (λ a. applies a environment && list_any (meets environment a) packages) c.alternatives-else-not-some_applies.result.now ∙ ap (list_any (λ a. applies a environment && list_any (meets environment a) packages)) c.alternatives-else-not-some_applies.ensures)
    (sym (ap (λ b. cond b Met Unmet) c.if-is_met.true))

pub returns-else-is_met : goal.returns-else-is_met
returns-else-is_met c =
    let environment = environment_of c.args.environment.now in
    let packages = packages_of c.args.self.now in
    verdict_met environment packages (group_of c.args.group.now) Unmet c.some_applies.result c.is_met.result (rw c.alternatives.ensures at c.some_applies.ensures) c.if-not-some_applies.false
    (c.is_met.ensures ∙ any-map alternative_of (λ a. applies a environment && list_any (meets environment a) packages) c.alternatives-else-not-some_applies.result.now ∙ ap (list_any (λ a. applies a environment && list_any (meets environment a) packages)) c.alternatives-else-not-some_applies.ensures)
    (sym (ap (λ b. cond b Met Unmet) c.if-is_met.false))

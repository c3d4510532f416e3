use Rattle.std.proofs.Common.{refl, sym, ◌∙◌}
use Rattle.deb_relation.specs.Environments.{environment_of}
use Rattle.deb_index.specs.Indexes.{packages_of}
use Rattle.deb_index.specs.ShownVersions.{shown_by}
use Rattle.deb_index.specs.Why.{lines_below}
use Rattle.deb_index.proofs.Details.{HasDetails, detailed_more, none_detailed}
use Rattle.deb_index.proofs.TextPieces.{groups_all, groups_more, groups_none}
use Rattle.deb_index.proofs.why.DetailedReport.of.Goals as goal

pub loop-rest-init : goal.loop-rest-init
loop-rest-init c = λ m regular is.
    let environment = environment_of c.args.environment.now in
    let packages = packages_of c.args.versions.index.now in
    let shown = shown_by c.args.versions in
    groups_none (λ done. HasDetails shown environment packages done c.in_ok-answers.answers c.new-reasons.result.items c.new-lens.result.items) m c.args.text.now regular is (none_detailed shown environment packages c.in_ok-answers.answers c.new-reasons.result.items c.new-lens.result.items c.in_ok-answers.ensures c.new-reasons.ensures.items c.new-lens.ensures.items)

pub loop-rest-preserved : goal.loop-rest-preserved
loop-rest-preserved c = λ m regular is.
    let environment = environment_of c.args.environment.now in
    let packages = packages_of c.args.versions.index.now in
    let shown = shown_by c.args.versions in
    groups_more (λ done. HasDetails shown environment packages done c.loop-rest.answers c.loop-rest.reasons.items c.loop-rest.lens.items) (λ done. HasDetails shown environment packages done c.append_answer.new.answers c.append_below.new.out.items c.push.new.self.items) m
    c.loop-rest.rest.now c.cut_group.result.1.now (c.loop-rest.invariant m regular is) (sym c.is_empty.ensures ∙ c.loop-rest-test.true) c.cut_group.ensures.others
    (λ g gs done good text so_far. let first = c.cut_group.ensures.first g gs good text in
    detailed_more shown environment packages done g c.loop-rest.answers c.append_answer.new.answers c.loop-rest.reasons.items (lines_below shown environment packages g c.in_ok-verdict.verdict) c.append_below.new.out.items c.loop-rest.lens.items c.push.new.self.items c.in_ok-verdict.verdict c.in_ok-append_below.field-0
    so_far (c.in_ok-verdict.ensures.verdict g good first) (c.in_ok-verdict.ensures.appended g good first done so_far.has) refl (c.in_ok-append_below.ensures g good first) c.in_ok-push.ensures.items)

pub returns-clause-details : goal.returns-clause-details
returns-clause-details c = λ m regular is.
    let environment = environment_of c.args.environment.now in
    let packages = packages_of c.args.versions.index.now in
    let shown = shown_by c.args.versions in
    (groups_all (λ done. HasDetails shown environment packages done c.loop-rest.answers c.loop-rest.reasons.items c.loop-rest.lens.items) m c.loop-rest.rest.now (c.loop-rest.invariant m regular is) (sym c.is_empty.ensures ∙ c.loop-rest-test.false)).details

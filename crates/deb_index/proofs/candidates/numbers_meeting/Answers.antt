-- The sort moves what was joined, and `dedup` keeps one of each.
use Rattle.std.proofs.Common.{◌≡◌, true, cond, ap, sym, ◌∙◌}
use Rattle.std.proofs.lemmas.List.Filters.{dedup_is}
use Rattle.deb_relation.specs.Environments.{environment_of}
use Rattle.deb_index.specs.Indexes.{packages_of}
use Rattle.deb_index.specs.Reports.{meets_group}
use Rattle.deb_index.proofs.Joined.{FoundBy, found_more, found_none}
use Rattle.deb_index.proofs.Merged.{merged}
use Rattle.deb_index.proofs.TextPieces.{alternatives_all, alternatives_more, alternatives_none}
use Rattle.deb_index.proofs.candidates.numbers_meeting.Goals as goal
use Rattle.deb_index.proofs.candidates.numbers_meeting.Goals.{then-also, else-also}

pub loop-rest-init : goal.loop-rest-init
loop-rest-init c = λ group regular is.
    alternatives_none (FoundBy (environment_of c.args.environment.now) (packages_of c.args.index.now) _ c.new-numbers.result.items) group c.args.group.now regular is (found_none (environment_of c.args.environment.now) (packages_of c.args.index.now) c.new-numbers.result.items c.new-numbers.ensures.items)

pub loop-rest-preserved : goal.loop-rest-preserved
loop-rest-preserved c = λ group regular is.
    let environment = environment_of c.args.environment.now in
    let packages = packages_of c.args.index.now in
    let now_is : c.if-also.applies ≡ cond c.in_ok-also.also true c.loop-rest.applies = elim c.if-also.branch [
      | then-also w ↦ w.applies-is ∙ ap (λ b. cond b true c.loop-rest.applies) (sym w.if-also.true)
      | else-also w ↦ w.applies-is ∙ ap (λ b. cond b true c.loop-rest.applies) (sym w.if-also.false)
    ] in
    alternatives_more (FoundBy environment packages c.loop-rest.applies c.loop-rest.numbers.items) (FoundBy environment packages c.if-also.applies c.append_only.new.numbers.items) group c.loop-rest.rest.now c.in_ok-relation.others.now (c.loop-rest.invariant group regular is) (sym c.is_empty.ensures ∙ c.loop-rest-test.true) c.in_ok-relation.ensures.others
    (λ a more done good text so_far. found_more environment packages a done c.loop-rest.applies c.in_ok-also.also c.if-also.applies c.loop-rest.numbers.items c.append_only.new.numbers.items now_is (c.in_ok-also.ensures a (c.in_ok-relation.ensures.first a more good text)) so_far)

pub returns-clause-applies : goal.returns-clause-applies
returns-clause-applies c = λ group regular is.
    (alternatives_all (FoundBy (environment_of c.args.environment.now) (packages_of c.args.index.now) c.loop-rest.applies c.loop-rest.numbers.items) group c.loop-rest.rest.now (c.loop-rest.invariant group regular is) (sym c.is_empty.ensures ∙ c.loop-rest-test.false)).some

pub returns-clause-numbers : goal.returns-clause-numbers
returns-clause-numbers c = λ group regular is.
    let environment = environment_of c.args.environment.now in
    let packages = packages_of c.args.index.now in
    dedup_is _ _ _ c.dedup.ensures.filtered
    ∙ merged c.loop-rest.numbers.items c.sort_unstable.new.self.items (meets_group environment group) packages c.sort_unstable.ensures.permutation c.sort_unstable.ensures.sorted
    (alternatives_all (FoundBy environment packages c.loop-rest.applies c.loop-rest.numbers.items) group c.loop-rest.rest.now (c.loop-rest.invariant group regular is) (sym c.is_empty.ensures ∙ c.loop-rest-test.false)).each

use Rattle.std.proofs.Common.{◌≡◌, ◌<◌, length, get_or, subst, sym}
use Rattle.std.specs.List.{All}
use Rattle.deb_solve.proofs.Partial.{Pairwise-more}
use Rattle.deb_solve.specs.Parts.{IsExclusion}
use Rattle.deb_solve.proofs.parts.excludes_of.Goals as goal

pub loop-number-preserved : goal.loop-number-preserved
loop-number-preserved c =
    let facts = c.args.facts.now in
    let ids = c.args.locals.now.ids.items in
    let items = c.deref-id-items.result.now in
    let i = c.loop-number.number in
    let same : items ≡ ids = c.deref-id-items.ensures.value in
    Pairwise-more (λ id. All (IsExclusion c.args.universe.now facts ids id)) ids
    c.loop-number.excludes c.push_row.new.self i 0 c.deref-in-loop-number.result.now
    (subst (λ xs. i < length xs) same c.loop-number-test.true) c.in_ok-push_row.ensures.pushed
    c.loop-number.invariant
    (subst (λ xs. All (IsExclusion c.args.universe.now facts ids (get_or xs i 0))
    c.deref-in-loop-number.result.now) same (subst
    (λ numbers. All (IsExclusion c.args.universe.now facts ids (get_or items i 0)) numbers)
    (sym c.deref-in-loop-number.ensures.value) c.in_ok-add_exclusions.ensures))

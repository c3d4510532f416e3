use Rattle.std.proofs.Common.{get_or, subst, sym}
use Rattle.deb_solve.proofs.Partial.{Pairwise-more}
use Rattle.deb_solve.specs.Parts.{Covers, candidates}
use Rattle.deb_solve.specs.declared.facts.Fact.TheVariants.{Needs}
use Rattle.deb_solve.proofs.parts.groups_of.Goals as goal

pub loop-fact-preserved : goal.loop-fact-preserved
loop-fact-preserved c =
    let u = c.args.universe.now in
    let ids = c.args.locals.now.ids.items in
    let facts = c.args.facts.now in
    Pairwise-more (λ fact. Covers u ids (candidates u fact)) facts c.loop-fact.groups
    c.push_row.new.self c.loop-fact.fact-index (Needs 0 0) c.deref.result.now
    c.loop-fact-test.true c.in_ok-push_row.ensures.pushed c.loop-fact.invariant
    (subst (λ numbers. Covers u ids (candidates u (get_or facts c.loop-fact.fact-index (Needs 0 0)))
    numbers) (sym c.deref.ensures.value) (subst
    (λ cs. Covers u ids cs c.add_candidates.new.row.items) c.candidates_of.ensures
    (c.in_ok-add_candidates.ensures c.if-not-branch.false)))

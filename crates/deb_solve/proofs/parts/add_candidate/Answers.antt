use Rattle.deb_solve.proofs.Partial.{AddsCandidate-push}
use Rattle.deb_solve.proofs.parts.add_candidate.Goals as goal

pub returns : goal.returns
returns c =
    λ _. AddsCandidate-push c.args.universe.now c.args.locals.now.ids.items c.args.row.now.items
    c.push.new.self.items c.args.candidate c.in-Some.number c.in_ok-push.ensures.items
    c.in-Some.ensures

use Rattle.std.proofs.Common.{sym, ◌∙◌}
use Rattle.deb_solve.proofs.Partial.{AreReasons-out}
use Rattle.deb_solve.proofs.reasoning.suffice.Goals as goal

pub returns : goal.returns
returns c = λ out.
    AreReasons-out c.args.universe.now c.in-Some.part c.args.number c.args.facts.now
    c.part_of.new.locals.ids.items (sym c.are_facts.ensures ∙ c.if-not-are_facts.false)
    (rw c.in-Some.is at c.in_ok-part.ensures) (c.in_ok-refutation.ensures out)

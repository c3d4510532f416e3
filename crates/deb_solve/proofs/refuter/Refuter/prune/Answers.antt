use Rattle.std.proofs.Common.{sym, subst}
use Rattle.deb_solve.specs.Refuting.{IsOut}
use Rattle.deb_solve.proofs.Deriving.{IsOut-unmet}
use Rattle.deb_solve.proofs.refuter.Refuter.prune.Goals as goal

pub mark_out-requires : goal.mark_out-requires
mark_out-requires c =
    let self = c.args.self.now in
    subst (λ u. IsOut u c.args.member) (sym c.is_unmet-unmet.ensures.same) (IsOut-unmet self.universe.now c.args.member c.args.at c.in-Some.group c.row_of.result.now c.row_of.ensures c.in-Some.ensures (c.is_unmet-unmet.ensures.unmet c.if-unmet.true))

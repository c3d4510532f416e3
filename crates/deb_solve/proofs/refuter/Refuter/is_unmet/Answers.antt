use Rattle.std.proofs.Common.{sym, ◌∙◌}
use Rattle.deb_solve.proofs.Deriving.{IsUnmet-all}
use Rattle.deb_solve.proofs.refuter.Refuter.is_unmet.Goals as goal

pub mark_unmet-requires : goal.mark_unmet-requires
mark_unmet-requires c =
    let self = c.args.self.now in
    IsUnmet-all self.universe.now self.out.items c.args.group c.row_of.result.now self.are_out c.row_of.ensures (sym c.all_out-all.ensures ∙ c.if-all.true)

pub returns-then-all-clause-unmet : goal.returns-then-all-clause-unmet
returns-then-all-clause-unmet c =
    let self = c.args.self.now in
    λ _. IsUnmet-all self.universe.now self.out.items c.args.group c.row_of.result.now self.are_out c.row_of.ensures (sym c.all_out-all.ensures ∙ c.if-all.true)

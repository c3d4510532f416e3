use Rattle.deb_solve.proofs.Deriving.{outs_more}
use Rattle.deb_solve.proofs.refuter.Refuter.mark_out.Goals as goal

pub invariant_of-self : goal.invariant_of-self
invariant_of-self c =
    let self = c.args.self.now in
    record { derived = self.derived; are_unmet = self.are_unmet; are_out = outs_more self.universe.now self.out.items c.args.number self.are_out c.requires }

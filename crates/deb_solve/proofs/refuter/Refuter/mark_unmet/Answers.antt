use Rattle.deb_solve.proofs.Deriving.{unmet_more}
use Rattle.deb_solve.proofs.refuter.Refuter.mark_unmet.Goals as goal

pub invariant_of-self : goal.invariant_of-self
invariant_of-self c =
    let self = c.args.self.now in
    record { derived = self.derived; are_out = self.are_out; are_unmet = unmet_more self.universe.now self.unmet.items c.args.group self.are_unmet c.requires }

use Rattle.deb_solve.proofs.Deriving.{IsOut-alone}
use Rattle.deb_solve.proofs.refuter.Refuter.keep.Goals as goal

pub mark_out-requires : goal.mark_out-requires
mark_out-requires c = IsOut-alone c.args.self.now.universe.now c.args.list.now c.requires c.if-list-eq1.true

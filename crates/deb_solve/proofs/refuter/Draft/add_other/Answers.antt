use Rattle.deb_solve.proofs.Deriving.{AddsOthers-contained}
use Rattle.deb_solve.proofs.refuter.Draft.add_other.Goals as goal

pub returns-else-not-has : goal.returns-else-not-has
returns-else-not-has c =
    AddsOthers-contained c.args.self.now.list.items c.args.number c.args.candidate (c.has.ensures c.if-not-has.false)

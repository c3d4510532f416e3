use Rattle.deb_solve.proofs.Deriving.{IsNogood-read}
use Rattle.deb_solve.proofs.refuter.excluded.Goals as goal

pub returns : goal.returns
returns c =
    IsNogood-read c.args.universe.now c.args.by c.args.at c.in-Some.other c.row_of.result.now c.row_of.ensures c.in-Some.ensures

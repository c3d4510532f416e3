use Rattle.deb_solve.proofs.Deriving.{Leads-read}
use Rattle.deb_solve.proofs.refuter.candidates_of.Goals as goal

pub returns : goal.returns
returns c =
    Leads-read c.args.universe.now c.args.member c.args.at c.in-Some.group c.row_of.result.now c.row_of-2.result.now c.row_of.ensures c.in-Some.ensures c.row_of-2.ensures

use Rattle.std.proofs.Common.{arith}
use Rattle.deb_solve.proofs.RowsKept.{length-rows_from}
use Rattle.deb_solve.proofs.rows.Rows.len.Goals as goal

pub returns : goal.returns
returns c =
    let ends = c.self.inside.ends in
    rw (← c.self.view_is, length-rows_from 0 c.self.inside.numbers.items ends.items) (omega (arith, c.len.ensures, ends.ok.0))

use Rattle.deb_solve.proofs.RowsKept.{length-rows_from, row_at}
use Rattle.deb_solve.proofs.rows.row_in.Goals as goal

pub part-requires-clause-ordered : goal.part-requires-clause-ordered
part-requires-clause-ordered c =
    rw c.start_of-start.ensures (row_at 0 c.args.numbers.now c.args.ends.now c.args.number c.if-index-ends.false c.requires).ordered

pub part-requires-clause-within : goal.part-requires-clause-within
part-requires-clause-within c =
    (row_at 0 c.args.numbers.now c.args.ends.now c.args.number c.if-index-ends.false c.requires).within

pub returns-clause-found : goal.returns-clause-found
returns-clause-found c =
    rw (c.part.ensures, c.start_of-start.ensures) (row_at 0 c.args.numbers.now c.args.ends.now c.args.number c.if-index-ends.false c.requires).found

pub returns-then-index-ends-clause-missing : goal.returns-then-index-ends-clause-missing
returns-then-index-ends-clause-missing c =
    rw (length-rows_from 0 c.args.numbers.now c.args.ends.now) c.if-index-ends.true

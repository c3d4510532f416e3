use Rattle.std.proofs.Common.{◌≡◌, ◌+◌, length, length-append, arith}
use Rattle.deb_solve.proofs.RowsKept.{ends_more, rows_more}
use Rattle.deb_solve.proofs.rows.push.Goals as goal

pub returns-clause-ends : goal.returns-clause-ends
returns-clause-ends c =
    let numbers = c.args.numbers.now in
    let end : c.in-Some.end ≡ length numbers.items + length c.args.row.now = omega (arith, c.in-Some.ensures, c.len.ensures, numbers.ok.0) in
    rw (c.in_default-extend_from_slice.ensures.items, c.in_ok-push.ensures.items, length-append numbers.items c.args.row.now, end)
    (ends_more 0 (length numbers.items) (length c.args.row.now) c.args.ends.now.items c.requires)

pub returns-clause-pushed : goal.returns-clause-pushed
returns-clause-pushed c =
    let numbers = c.args.numbers.now in
    let end : c.in-Some.end ≡ length numbers.items + length c.args.row.now = omega (arith, c.in-Some.ensures, c.len.ensures, numbers.ok.0) in
    rw (c.in_default-extend_from_slice.ensures.items, c.in_ok-push.ensures.items, end)
    (rows_more 0 numbers.items c.args.ends.now.items c.args.row.now c.requires)

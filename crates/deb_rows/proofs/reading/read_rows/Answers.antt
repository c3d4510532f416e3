-- The second scan finds the rows that the first found.
use Rattle.deb_rows.proofs.Scanned.{scanned_twice}
use Rattle.deb_rows.proofs.reading.read_rows.Goals as goal

pub returns-else-found-rows-clause-read : goal.returns-else-found-rows-clause-read
returns-else-found-rows-clause-read c = λ e.
    scanned_twice c.args.form c.args.text.now c.scan.new.rows c.args.rows.now c.scan-in-Some.new.rows c.in-Some.found c.scan-in-Some.result c.in-Some.ensures.some
    c.scan-in-Some.ensures.some c.scan-in-Some.ensures.none c.if-found-rows.false

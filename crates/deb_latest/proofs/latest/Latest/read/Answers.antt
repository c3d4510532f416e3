use Rattle.std.proofs.lemmas.Result.{err_from_is_err_and}
use Rattle.deb_latest.proofs.latest.Latest.read.Goals as goal

pub returns-in_err-read_on-clause-refused : goal.returns-in_err-read_on-clause-refused
returns-in_err-read_on-clause-refused g c = λ text told.
    let p = err_from_is_err_and c.from_residual.result c.from_residual.ensures.1 in
    rw (p.1, p.2) (c.in_err-read_on.ensures.refused text told)

use Rattle.std.proofs.lemmas.Result.{err_from_is_err_and}
use Rattle.deb_base.proofs.Writes.{AppendsFront-pieces}
use Rattle.deb_explain.specs.Paths.{is_plain, path_byte}
use Rattle.deb_explain.proofs.paths.write_path.Goals as goal

pub returns-in_err-write_path_byte-clause-written : goal.returns-in_err-write_path_byte-clause-written
returns-in_err-write_path_byte-clause-written g c =
    let p = err_from_is_err_and c.from_residual.result c.from_residual.ensures.1 in
    rw p.1 (AppendsFront-pieces (path_byte (is_plain c.args.path.now)) c.args.path.now c.loop-byte.byte-index 0 _ _ _ c.loop-byte-test.true c.loop-byte.invariant.bytes (rw c.is_plain-plain.ensures at c.in_err-write_path_byte.ensures.written))

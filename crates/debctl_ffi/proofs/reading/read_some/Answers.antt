use Rattle.std.proofs.Common.{◌∙◌, refl}
use Rattle.std.proofs.lemmas.Result.{err_from_is_err_and}
use Rattle.debctl_ffi.proofs.Readings.{refuses-on}
use Rattle.debctl_ffi.proofs.reading.read_some.Goals as goal

pub returns-in_err-read_next-clause-refused : goal.returns-in_err-read_next-clause-refused
returns-in_err-read_next-clause-refused g c = λ text given start.
    let p = err_from_is_err_and c.from_residual.result c.from_residual.ensures.1 in
    let so_far = c.loop.invariant.reads text given start in
    let refused = rw c.loop.invariant.doc at c.in_err-read_next.ensures.refused in
    rw (p.1, p.2) (refuses-on _ text given so_far.fresh c.read_next.new.tables c.in_err-read_next.field-0.0 (refused text given so_far.fresh so_far.reading))

pub returns-then-not-branch-clause-reads : goal.returns-then-not-branch-clause-reads
returns-then-not-branch-clause-reads g c = λ text given start.
    let so_far = c.loop.invariant.reads text given start in
    let reads = rw (c.if-not-branch.true, c.loop.invariant.doc) at c.in_ok-read_next.ensures.reads in
    record { fresh = so_far.fresh; reading = ((reads text given so_far.fresh so_far.reading).none refl).0 }

pub loop-preserved : goal.loop-preserved
loop-preserved g c =
    let reads = rw (c.if-not-branch.false, c.loop.invariant.doc) at c.in_ok-read_next.ensures.reads in
    record {
      doc = c.in_ok-read_next.ensures.doc ∙ c.loop.invariant.doc;
      reads = λ text given start.
          let so_far = c.loop.invariant.reads text given start in
          let next = (reads text given so_far.fresh so_far.reading).next refl in
          record { fresh = _; reading = next.1 };
    }

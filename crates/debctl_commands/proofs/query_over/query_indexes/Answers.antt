use Rattle.std.proofs.Common.{ap, Err, inl, inr, refl}
use Rattle.debctl_commands.specs.QueryOver.{asked_over}
use Rattle.debctl_commands.proofs.QueryReports.{good_words}
use Rattle.debctl_commands.proofs.query_over.query_indexes.Goals as goal

pub returns-in-Ok : goal.returns-in-Ok
returns-in-Ok g c =
    let asks = c.in-Ok.ensures.ok in
    inr (good_words (asked_over c.args.query.now c.args.relation.now) c.in-Ok.question asks, rw asks.is at c.ask_indexes.ensures)

pub returns-in-Err : goal.returns-in-Err
returns-in-Err g c = inl (record {
  fault = c.in-Err.fault;
  is = ap Err c.unnamed.ensures;
  fault_is = c.in-Err.ensures.fault;
  unopened = refl;
  unwritten = refl;
})

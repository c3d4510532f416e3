use Rattle.std.proofs.Common.{[], ap, ◌∙◌}
use Rattle.std.proofs.lemmas.Result.{err_from_is_err_and}
use Rattle.deb_unmet.specs.Parts.{IsOther}
use Rattle.deb_unmet.proofs.OwnFiles.{none_given}
use Rattle.deb_unmet.proofs.in_itself.read_over.Goals as goal

pub returns-in_err-index-clause-refused : goal.returns-in_err-index-clause-refused
returns-in_err-index-clause-refused g c = λ text told.
    let p = err_from_is_err_and c.from_residual.result c.from_residual.ensures.1 in
    rw (p.1, p.2) (rw c.members.ensures at c.in_err-index.ensures.refused text told)

pub returns-clause-ok : goal.returns-clause-ok
returns-clause-ok g c = λ text told none.
    let asks = g.L.OwnLines.asks c.args.lines.now in
    let lists = rw c.members.ensures at c.in_ok-index.ensures.ok text told in
    record {
      listed = lists.packages;
      lists = lists.lists;
      over = c.in_ok-over.ensures ∙ ap asks.over lists.follow;
      keeps = (rw c.members.ensures at c.in_ok-index.ensures.keeps text [] told) (none_given asks.members g.L.OwnLines.Holds (IsOther g.L.OwnLines.asks) _ none);
    }

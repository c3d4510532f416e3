use Rattle.std.proofs.Common.{sym, ap}
use Rattle.deb_relation.proofs.Faultless.{spells_where_faultless}
use Rattle.deb_explain.specs.Causes.{stopped_at}
use Rattle.deb_explain.proofs.cause.relation_cause.Goals as goal
use Rattle.deb_explain.proofs.cause.relation_cause.Goals.{in-Ok, in-Err-Bad, in-Err-Memory}

pub returns : goal.returns
returns c =
    elim c.match-parse.branch [
      | in-Ok w ↦ rw w.result-is (sym (ap stopped_at ((spells_where_faultless c.args.body.now).0 (_, w.in-Ok.ensures.ok))))
      | in-Err-Bad w ↦ rw w.result-is (sym (ap stopped_at (rw w.in-Err-Bad.field-0-is at w.in-Err-Bad.ensures.refused)))
      | in-Err-Memory w ↦ rw w.result-is tt
    ]

use Rattle.std.proofs.Common.{sym}
use Rattle.deb_select.proofs.Explained.{none_refused}
use Rattle.deb_select.proofs.explaining.refusal_of.Goals as goal
use Rattle.deb_select.proofs.explaining.refusal_of.Goals.{in-Ok, in-Err-Bad, in-Err-Memory}

pub returns : goal.returns
returns c =
    elim c.match-read.branch [
      | in-Ok w ↦ rw w.result-is (none_refused c.args.doc c.args.text.now _ w.in-Ok.ensures.ok)
      | in-Err-Bad w ↦ rw w.result-is (sym (rw w.in-Err-Bad.field-0-is at w.in-Err-Bad.ensures.refused))
      | in-Err-Memory w ↦ rw w.result-is tt
    ]

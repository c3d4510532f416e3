use Rattle.std.proofs.Common.{◌∙◌}
use Rattle.deb_control.proofs.GivenRefusals.{gives_found, goes_first}
use Rattle.deb_control.proofs.refusals.Refusals.find.Goals as goal

pub returns-clause-gives : goal.returns-clause-gives
returns-clause-gives g c = λ doc text done goes.
    let found = c.next_refusal-found.ensures in
    gives_found doc text _ _ done c.next_refusal-found.result c.position_after-self.ensures (found.doc ∙ goes.reads) (goes_first doc text _ _ _ done goes) (found.reads_at_most doc text done goes) (found.finds doc text done goes)

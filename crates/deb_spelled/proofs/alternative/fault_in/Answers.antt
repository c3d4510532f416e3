use Rattle.std.proofs.Common.{subst, sym}
use Rattle.deb_spelled.specs.Relations.{HasFault}
use Rattle.deb_spelled.proofs.Refused.{fault_found}
use Rattle.deb_spelled.proofs.alternative.fault_in.Goals as goal

pub returns : goal.returns
returns c = subst (HasFault c.args.text.now) (sym c.err.ensures.value) (fault_found c.args.text.now c.parse.result c.parse.ensures.ok c.parse.ensures.accepted c.parse.ensures.refused)

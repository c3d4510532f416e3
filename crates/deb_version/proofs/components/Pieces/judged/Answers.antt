use Rattle.deb_version.proofs.Common.{Some, None, sym, ◌∙◌}
use Rattle.deb_version.specs.Pieces.{pieces_of}
use Rattle.deb_version.proofs.ParseLemmas.{fault_is}
use Rattle.deb_version.proofs.PlainVersions.{spelled_without_fault}
use Rattle.deb_version.proofs.components.Pieces.judged.Goals as goal

pub returns-in-Some-clause-ok : goal.returns-in-Some-clause-ok
returns-in-Some-clause-ok c = spelled_without_fault c.args.text.now (pieces_of c.in-Some.pieces) c.in-Some.ensures.0 c.in-Some.ensures.1

pub returns-in-Some-first_fault-clause-refused : goal.returns-in-Some-first_fault-clause-refused
returns-in-Some-first_fault-clause-refused c = fault_is c.args.text.now _ c.of-pieces.ensures (Some c.in-Some-first_fault.fault) (sym c.in-Some-first_fault.is ∙ c.first_fault.ensures)

pub returns-in-None-clause-ok : goal.returns-in-None-clause-ok
returns-in-None-clause-ok c = (c.of-pieces.ensures, fault_is c.args.text.now _ c.of-pieces.ensures None (sym c.in-None.is ∙ c.first_fault.ensures))

use Rattle.std.proofs.lemmas.Option.{IfSome_then}
use Rattle.std.specs.Option.{option_copied}
use Rattle.deb_relation.proofs.InPlace.{alternative_begins}
use Rattle.deb_relation.proofs.in_place.cut_alternative.Goals as goal

pub returns-in-Ok : goal.returns-in-Ok
returns-in-Ok c = IfSome_then c.cut_bound.result c.cut_bound.ensures (λ p b. alternative_begins c.args.text.now c.in_ok-rest.field-0-0.now c.in_ok-rest.rest.now (option_copied c.in-Ok.field-0-0) c.in-Ok.rest.now p.0 p.1.now c.in_ok-rest.ensures c.in-Ok.ensures b)

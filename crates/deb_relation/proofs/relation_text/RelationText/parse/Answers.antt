use Rattle.std.proofs.Common.{ap}
use Rattle.deb_relation.specs.Bodies.{meaning_in, meaning_of}
use Rattle.deb_relation.proofs.InPlace.{in_place_means}
use Rattle.deb_relation.proofs.ReadRelation.{relation_took}
use Rattle.deb_relation.proofs.SpelledGroups.{relation_read}
use Rattle.deb_relation.proofs.relation_text.RelationText.parse.Goals as goal

pub invariant_of-result : goal.invariant_of-result
invariant_of-result c =
    let is = in_place_means c.args.body.now c.in-Some.some_alternatives c.in-Some.equals_alone c.in-Some.ensures in
    record { read = is.read; written = is.written; alternatives_are = is.two_is; equals_are = is.equals_is }

pub returns-in-Some-clause-ok : goal.returns-in-Some-clause-ok
returns-in-Some-clause-ok c = relation_took c.args.body.now (meaning_in c.args.body.now) (in_place_means c.args.body.now c.in-Some.some_alternatives c.in-Some.equals_alone c.in-Some.ensures).read

pub returns-in-Some-clause-accepted : goal.returns-in-Some-clause-accepted
returns-in-Some-clause-accepted c = λ m s. ap meaning_of (relation_read c.args.body.now m s)

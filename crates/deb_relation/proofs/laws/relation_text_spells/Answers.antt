use Rattle.deb_relation.specs.RelationTexts.{body_of, text_meaning}
use Rattle.deb_relation.proofs.ReadRelation.{relation_took}
use Rattle.deb_relation.proofs.laws.relation_text_spells.Goals as goal

pub returns : goal.returns
returns c =
    relation_took (body_of c.args.relation.now) (text_meaning c.args.relation.now)
    c.args.relation.now.read

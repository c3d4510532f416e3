use Rattle.deb_relation.specs.RelationTexts.{text_meaning}
use Rattle.deb_relation.proofs.ReadRelation.{relation_took}
use Rattle.deb_relation.proofs.relation_text.RelationText.relation.Goals as goal

pub returns : goal.returns
returns c = c.parse.ensures.accepted (text_meaning c.args.self.now) (relation_took c.args.self.now.body.now (text_meaning c.args.self.now) c.args.self.now.read)

use Rattle.deb_relation.specs.Relations.{relation_of}
use Rattle.deb_relation.specs.Texts.{relation_text}
use Rattle.deb_relation.proofs.ReadRelation.{relation_took}
use Rattle.deb_relation.proofs.laws.relation_spells.Goals as goal

pub returns : goal.returns
returns c =
    let m = relation_of c.args.relation.now in
    relation_took (relation_text m) m c.args.relation.now.spelled

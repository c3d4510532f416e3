use Rattle.deb_relation.specs.Relations.{relation_of}
use Rattle.deb_relation.specs.Texts.{relation_text}
use Rattle.deb_relation.proofs.Ascending.{groups_ascend}
use Rattle.deb_relation.proofs.AscendingSets.{sets_ascend}
use Rattle.deb_relation.proofs.ReadRelation.{relation_took}
use Rattle.deb_relation.proofs.Regular.{relation_regular}
use Rattle.deb_relation.proofs.relation.Relation.groups.Goals as goal

pub returns-clause-ascend : goal.returns-clause-ascend
returns-clause-ascend c = groups_ascend (relation_text (relation_of c.args.self.now)) (relation_of c.args.self.now) c.args.self.now.spelled

pub returns-clause-sets : goal.returns-clause-sets
returns-clause-sets c = sets_ascend (relation_text (relation_of c.args.self.now)) (relation_of c.args.self.now) c.args.self.now.spelled

pub returns-clause-regular : goal.returns-clause-regular
returns-clause-regular c =
    let text = relation_text (relation_of c.args.self.now) in
    let m = relation_of c.args.self.now in
    relation_regular text m (relation_took text m c.args.self.now.spelled)

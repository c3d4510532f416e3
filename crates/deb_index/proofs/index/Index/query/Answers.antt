use Rattle.std.proofs.Common.{◌∙◌}
use Rattle.deb_relation.specs.Relations.{relation_of}
use Rattle.deb_index.proofs.TextPieces.{canonical, regular_relation}
use Rattle.deb_index.proofs.index.Index.query.Goals as goal

pub of-requires : goal.of-requires
of-requires c = canonical c.deref.result.now (relation_of c.args.relation.now) (regular_relation c.args.relation.now) (c.deref.ensures.value ∙ c.in_ok-text.ensures)

pub returns-clause-ok : goal.returns-clause-ok
returns-clause-ok c = c.in_ok-report.ensures.report (relation_of c.args.relation.now) (regular_relation c.args.relation.now) (c.deref.ensures.value ∙ c.in_ok-text.ensures)

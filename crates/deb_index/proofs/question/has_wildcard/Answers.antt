use Rattle.std.proofs.Common.{◌∙◌}
use Rattle.deb_relation.specs.RelationTexts.{text_meaning}
use Rattle.deb_index.proofs.TextPieces.{text_regular}
use Rattle.deb_index.proofs.question.has_wildcard.Goals as goal

pub returns : goal.returns
returns c = c.some_wildcard.ensures (text_meaning c.args.relation.now) (text_regular c.args.relation.now) (c.deref.ensures.value ∙ c.in_ok-text.ensures)

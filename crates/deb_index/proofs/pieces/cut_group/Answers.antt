use Rattle.std.proofs.Common.{refl, ◌∙◌}
use Rattle.deb_index.proofs.TextPieces.{group_first, group_others}
use Rattle.deb_index.proofs.pieces.cut_group.Goals as goal

pub returns-clause-first : goal.returns-clause-first
returns-clause-first c = λ group others regular is. c.cut.ensures.first ∙ group_first c.args.text.now _ group others regular is refl

pub returns-clause-others : goal.returns-clause-others
returns-clause-others c = λ group others regular is. c.cut.ensures.others ∙ group_others c.args.text.now _ group others regular is refl

use Rattle.std.proofs.Common.{[], ◌∷◌, refl, sym, subst, ◌∙◌}
use Rattle.deb_relation.specs.Grammar.{SpellsRelation}
use Rattle.deb_index.proofs.TextPieces.{alternative_first}
use Rattle.deb_index.proofs.pieces.next_alternative.Goals as goal

pub returns-in-Ok-clause-first : goal.returns-in-Ok-clause-first
returns-in-Ok-clause-first c = λ a others regular is.
    c.in-Ok.ensures.accepted ((a ∷ []) ∷ []) (subst (λ t. SpellsRelation t ((a ∷ []) ∷ [])) (sym c.cut.ensures.first) (alternative_first c.args.text.now _ a others regular is refl).0)

pub returns-in-Ok-clause-others : goal.returns-in-Ok-clause-others
returns-in-Ok-clause-others c = λ a others regular is. c.cut.ensures.others ∙ (alternative_first c.args.text.now _ a others regular is refl).1

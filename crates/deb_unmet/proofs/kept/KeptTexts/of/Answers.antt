use Rattle.std.proofs.Common.{codes, refl, ◌∙◌}
use Rattle.deb_base.specs.Kinds.{known_row}
use Rattle.deb_unmet.proofs.kept.KeptTexts.of.Goals as goal

pub returns : goal.returns
unfolding known_row
returns c = λ values has.
    rw (
      c.word.ensures ∙ has.word (codes "Package"),
      c.word-2.ensures ∙ has.word (codes "Version"),
      c.spelled_body.ensures,
      c.word-3.ensures ∙ has.word (codes "Architecture"),
      c.relation.ensures ∙ has.relation (codes "Pre-Depends"),
      c.relation-2.ensures ∙ has.relation (codes "Depends"),
      c.relation-3.ensures ∙ has.relation (codes "Recommends"),
    ) refl

use Rattle.std.proofs.Common.{cond, codes, sym, ap, ◌∙◌}
use Rattle.deb_base.specs.Kinds.{known_row}
use Rattle.deb_control.specs.FieldWords.{word_under}
use Rattle.deb_unmet.proofs.line_texts.architecture_of.Goals as goal

pub returns-then-is_binary : goal.returns-then-is_binary
unfolding known_row
returns-then-is_binary c = λ values has.
    c.word.ensures ∙ has.word (codes "Architecture") ∙ ap (λ b. cond b (word_under (codes "Architecture") values) (codes "source")) (sym c.if-is_binary.true ∙ c.is_binary.ensures)

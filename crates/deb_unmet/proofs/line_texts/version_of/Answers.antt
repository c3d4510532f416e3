use Rattle.std.proofs.Common.{codes, ◌∙◌}
use Rattle.deb_base.specs.Kinds.{known_row}
use Rattle.deb_unmet.proofs.line_texts.version_of.Goals as goal

pub returns-in-Canonical : goal.returns-in-Canonical
unfolding known_row
returns-in-Canonical c = λ values has. rw c.in-Canonical.is (c.word.ensures ∙ has.word (codes "Version"))

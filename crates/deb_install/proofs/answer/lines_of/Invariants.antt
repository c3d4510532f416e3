-- The lines of the packages so far, and then those of the others.
use Rattle.std.proofs.Common.{◌≡◌, ◌+◌, ◌++◌, drop}
use Rattle.deb_index.specs.Indexes.{packages_of}
use Rattle.deb_install.specs.Answers.{answer_at, answer_lines, asked_line, lines_from, names_in}
use Rattle.deb_install.proofs.answer.lines_of.Given as goal

abbrev pub invariant-loop-count : goal.invariant-loop-count
invariant-loop-count l =
    l.text.items ++ lines_from (λ p. asked_line (names_in l.names) (answer_at l.every l.one p.0) p) (l.count + 1) (drop l.count (packages_of l.index))
    ≡ answer_lines (names_in l.names) (answer_at l.every l.one) (packages_of l.index)

-- The lines of the packages so far, with facts that explain them.
use Rattle.std.proofs.Common.{map}
use Rattle.deb_control.specs.Documents.{Meaning}
use Rattle.deb_index.specs.Indexes.{packages_of}
use Rattle.deb_install.specs.Answers.{answer_at, names_in}
use Rattle.deb_install.specs.Explaining.{HoldsFor, reason_of}
use Rattle.deb_install.specs.ReasonLines.{explained_line}
use Rattle.deb_install.specs.Universes.{setting_of}
use Rattle.deb_install.proofs.ExplainedLines.{ExplainedTo}
use Rattle.deb_install.proofs.explaining.explained_lines.Given as goal

abbrev pub invariant-loop-count : goal.invariant-loop-count
invariant-loop-count l =
    (meaning : Meaning) → HoldsFor meaning l.explaining
    → ExplainedTo l.explaining.universe.now (λ found p. explained_line (names_in l.explaining.names) (packages_of l.explaining.listing.now.index.now) (answer_at l.every l.one p.0) (map (reason_of (setting_of l.explaining.listing.now meaning) l.explaining.universe.now) found) p)
    (packages_of l.explaining.listing.now.index.now) l.count l.text.items

-- The lines of the numbers so far.
use Rattle.std.proofs.Common.{◌≡◌, ◌++◌, not, take}
use Rattle.std.specs.List.{flat_map}
use Rattle.deb_relation.specs.Environments.{environment_of}
use Rattle.deb_index.specs.Indexes.{packages_of}
use Rattle.deb_index.specs.Kept.{listed_of}
use Rattle.deb_unmet.specs.Paragraphs.{heading_in}
use Rattle.deb_health.specs.Lines.{duplicate_line, line_at}
use Rattle.deb_health.proofs.Duplicates.{lines_behind}
use Rattle.deb_health.specs.Together.{are_together}
use Rattle.deb_health.proofs.lines.append_duplicates.Given as goal

abbrev pub invariant-loop-number : goal.invariant-loop-number
invariant-loop-number l =
    l.out.items ≡ l.initial.out.items ++ flat_map (lines_behind l.paragraph.number (λ q. not (are_together (environment_of l.set.environment.now).native (listed_of l.«package») q)) (packages_of l.set.index.now) (line_at (duplicate_line (heading_in l.paragraph)) (packages_of l.set.index.now))) (take l.number-index l.number-items)

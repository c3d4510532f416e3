-- The lines of the numbers so far.
use Rattle.std.proofs.Common.{◌≡◌, ◌++◌, take}
use Rattle.std.specs.List.{flat_map}
use Rattle.deb_relation.specs.Views.{alternative_of}
use Rattle.deb_index.specs.Indexes.{packages_of}
use Rattle.deb_unmet.specs.Paragraphs.{heading_in}
use Rattle.deb_health.specs.Excluding.{is_other}
use Rattle.deb_health.specs.Lines.{exclusion_front, exclusion_line, line_at}
use Rattle.deb_health.proofs.Exclusions.{lines_if}
use Rattle.deb_health.proofs.excluding.append_excluded.Given as goal

abbrev pub invariant-loop-number : goal.invariant-loop-number
invariant-loop-number l =
    l.out.items ≡ l.initial.out.items ++ flat_map (lines_if (is_other l.negative.target.now l.negative.paragraph.now.texts.now.name.now (alternative_of l.alternative).qualifier) (packages_of l.negative.index.now) (line_at (exclusion_line (exclusion_front l.applies (heading_in l.negative.paragraph.now) l.negative.field.now l.group)) (packages_of l.negative.index.now))) (take l.number-index l.numbers)

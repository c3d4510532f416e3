-- The lines of the packages so far, and then those of the others.
use Rattle.std.proofs.Common.{◌≡◌, ◌+◌, ◌++◌, drop}
use Rattle.deb_index.specs.Indexes.{packages_of}
use Rattle.deb_solve.specs.Marks.{marked}
use Rattle.deb_install.specs.Answers.{lines_from}
use Rattle.deb_install.specs.Witnesses.{member_line, set_lines}
use Rattle.deb_install.proofs.witnesses.marked_lines.Given as goal

abbrev pub invariant-loop-count : goal.invariant-loop-count
invariant-loop-count l =
    l.lines.items ++ lines_from (member_line (marked l.marks)) (l.count + 1) (drop l.count (packages_of l.index))
    ≡ set_lines (marked l.marks) (packages_of l.index)

use Rattle.std.proofs.Common.{◌≡◌, ◌++◌, map, drop}
use Rattle.deb_diff.specs.Cuts.{texts_in}
use Rattle.deb_diff.specs.Marks.{lines_in}
use Rattle.deb_diff.proofs.values.append_lines.Given as goal

abbrev pub invariant-loop-name : goal.invariant-loop-name
invariant-loop-name l =
    l.out.items ++ lines_in (texts_in l.fields.entries) (texts_in l.others.entries) (map (λ n. n.now) (drop l.name-index l.names))
    ≡ l.initial.out.items ++ lines_in (texts_in l.fields.entries) (texts_in l.others.entries) (map (λ n. n.now) l.names)

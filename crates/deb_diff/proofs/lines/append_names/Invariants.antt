use Rattle.std.proofs.Common.{◌≡◌, ◌++◌, map, drop}
use Rattle.deb_diff.specs.Lefts.{rest_of_line}
use Rattle.deb_diff.proofs.lines.append_names.Given as goal

abbrev pub invariant-loop-name : goal.invariant-loop-name
invariant-loop-name l = l.out.items ++ rest_of_line (map (λ n. n.now) (drop l.name-index l.names)) ≡ l.initial.out.items ++ rest_of_line (map (λ n. n.now) l.names)

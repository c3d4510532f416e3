use Rattle.std.proofs.Common.{◌≡◌, map, take}
use Rattle.deb_relation.specs.Targets.{bytes_of}
use Rattle.deb_relation.proofs.environment.copies_again.Given as goal

abbrev pub invariant-loop-name : goal.invariant-loop-name
invariant-loop-name l = map bytes_of l.copies.items ≡ map bytes_of (take l.name-index l.names)

use Rattle.std.proofs.Common.{◌≡◌, map, take}
use Rattle.deb_relation.specs.Targets.{bytes_of}
use Rattle.deb_relation.specs.Views.{names_of}
use Rattle.deb_relation.proofs.environment.copies_of.Given as goal

abbrev pub invariant-loop-name : goal.invariant-loop-name
invariant-loop-name l = map bytes_of l.copies.items ≡ names_of (take l.name-index l.names)

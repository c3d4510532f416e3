use Rattle.std.proofs.Common.{◌≡◌, map, take}
use Rattle.deb_relation.specs.Views.{names_of}
use Rattle.debctl_ffi.proofs.select.copies_of.Given as goal

abbrev pub invariant-loop-name : goal.invariant-loop-name
invariant-loop-name l = map (λ name. name.items) l.copies.items ≡ names_of (take l.name-index l.names)

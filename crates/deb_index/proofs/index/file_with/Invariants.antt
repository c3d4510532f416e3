-- The files from this one on have the package with the number that is left.
use Rattle.std.proofs.Common.{◌≡◌, ◌+◌, drop}
use Rattle.deb_index.specs.Files.{file_from}
use Rattle.deb_index.proofs.index.file_with.Given as goal

abbrev pub invariant-loop-index : goal.invariant-loop-index
invariant-loop-index l = file_from (l.index + 1) (drop l.index l.counts) l.rest ≡ file_from 1 l.counts l.number

use Rattle.std.proofs.Common.{◌≡◌, map, take, Ok, string_bytes}
use Rattle.debctl_commands.specs.IndexFiles.{AddsIndex}
use Rattle.debctl_commands.specs.OpenedFiles.{InOrder, ReadsMore, opener}
use Rattle.debctl_commands.proofs.index_files.read_into.Given as goal

abbrev pub invariant-loop-path : goal.invariant-loop-path
invariant-loop-path g l = record {
  order : InOrder (ReadsMore (opener g.F.Opens.opens g.F.Opens.text g.F.Opens.failures g.F.Reader.Source.left g.F.Reader.Source.failures) (AddsIndex l.members)) 1
      (map string_bytes (take l.path-index l.paths)) l.initial.files l.initial.index (Ok l.index) l.files;
  place : l.place ≡ l.path-index;
}

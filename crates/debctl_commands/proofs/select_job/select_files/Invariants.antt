use Rattle.std.proofs.Common.{◌≡◌, map, take, Ok, string_bytes}
use Rattle.deb_select.specs.Selecting.{Request}
use Rattle.debctl_commands.specs.OpenedFiles.{InOrder, ReadsMore, opener}
use Rattle.debctl_commands.specs.SelectJob.{AddsSelected, IsSelector, no_file, so_far}
use Rattle.debctl_commands.proofs.select_job.select_files.Given as goal

abbrev pub invariant-loop-path : goal.invariant-loop-path
invariant-loop-path g l = record {
  order : (asked : Request) → IsSelector asked l.selector → (last : g.row.W.Denot) (last_err : g.row.E.Denot)
      → InOrder (ReadsMore (opener g.F.Opens.opens g.F.Opens.text g.F.Opens.failures g.F.Reader.Source.left g.F.Reader.Source.failures) (AddsSelected asked g.W.Sink.held g.W.Sink.failures last last_err)) 1
      (map string_bytes (take l.path-index l.paths)) l.initial.files (so_far no_file l.initial.out l.initial.err) (Ok (so_far l.tally l.out l.err)) l.files;
  place : l.place ≡ l.path-index;
}

use Rattle.std.proofs.Common.{◌≡◌, map, take, Ok, string_bytes}
use Rattle.deb_select.specs.Selecting.{Request}
use Rattle.debctl_commands.specs.JobDevices.{writer_of}
use Rattle.debctl_commands.specs.OpenedFiles.{InOrder, ReadsMore, opener}
use Rattle.debctl_commands.specs.SelectAcceptedJob.{AddsAccepted, nothing_read, read_so_far}
use Rattle.debctl_commands.specs.SelectJob.{IsSelector}
use Rattle.debctl_commands.proofs.select_accepted_job.accept_files.Given as goal

abbrev pub invariant-loop-path : goal.invariant-loop-path
invariant-loop-path g l = record {
  order : (asked : Request) → IsSelector asked l.selector → (last : g.row.W.Denot) (last_err : g.row.E.Denot)
      → InOrder (ReadsMore (opener g.F.Opens.opens g.F.Opens.text g.F.Opens.failures g.F.Reader.Source.left g.F.Reader.Source.failures) (AddsAccepted asked (writer_of g.W.Sink.held g.W.Sink.failures l.initial.out last) (writer_of g.E.Sink.held g.E.Sink.failures l.initial.err last_err))) 1
      (map string_bytes (take l.path-index l.paths)) l.initial.files (read_so_far nothing_read l.initial.out l.initial.err) (Ok (read_so_far l.total l.out l.err)) l.files;
  place : l.place ≡ l.path-index;
}

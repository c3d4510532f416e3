use Rattle.std.proofs.Common.{map, take, Ok, string_bytes}
use Rattle.debctl_commands.specs.LatestJob.{WritesPath}
use Rattle.debctl_commands.specs.OpenedFiles.{opener}
use Rattle.debctl_commands.specs.Turns.{InTurn}
use Rattle.debctl_commands.proofs.latest_job.write_paths.Given as goal

abbrev pub invariant-loop-path : goal.invariant-loop-path
invariant-loop-path g l =
    InTurn (WritesPath (opener g.F.Opens.opens g.F.Opens.text g.F.Opens.failures g.F.Reader.Source.left g.F.Reader.Source.failures) g.W.Sink.held g.W.Sink.failures)
    (map string_bytes (take l.path-index l.paths)) l.initial.files (l.initial.winners, l.initial.out) (Ok 0) l.files (l.winners, l.out)

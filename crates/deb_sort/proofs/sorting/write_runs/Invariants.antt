-- The runs so far were written.
use Rattle.std.proofs.Common.{◌≡◌, take}
use Rattle.std.specs.Io.KnownBytes.{Appends}
use Rattle.std.specs.List.{flat_map}
use Rattle.deb_syntax.specs.Lines.{with_newlines}
use Rattle.deb_sort.specs.VersionLines.{run_lines}
use Rattle.deb_sort.proofs.sorting.write_runs.Given as goal

abbrev pub invariant-loop-run : goal.invariant-loop-run
invariant-loop-run g l = record {
  bytes : Appends (g.W.Sink.held l.initial.out) (g.W.Sink.held l.out) (flat_map (λ run. with_newlines (run_lines run)) (take l.run-index l.runs));
  counted : g.W.Sink.failures l.out ≡ g.W.Sink.failures l.initial.out;
}

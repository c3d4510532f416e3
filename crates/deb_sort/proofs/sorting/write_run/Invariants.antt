-- So many lines were written.
use Rattle.std.proofs.Common.{◌≡◌, replicate}
use Rattle.std.specs.Io.KnownBytes.{Appends}
use Rattle.std.specs.List.{flat_map}
use Rattle.deb_version.specs.Kept.{text_of}
use Rattle.deb_sort.proofs.RunLemmas.{ended}
use Rattle.deb_sort.proofs.sorting.write_run.Given as goal

abbrev pub invariant-loop : goal.invariant-loop
invariant-loop g l = record {
  bytes : Appends (g.W.Sink.held l.initial.out) (g.W.Sink.held l.out) (flat_map ended (replicate l.counter (text_of l.run.line)));
  counted : g.W.Sink.failures l.out ≡ g.W.Sink.failures l.initial.out;
}

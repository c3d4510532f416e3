use Rattle.std.proofs.Common.{◌≡◌, ◌-◌, ◌≤◌, length, take}
use Rattle.std.specs.Io.KnownBytes.{Appends}
use Rattle.deb_base.proofs.put.put_all.Given as goal

abbrev pub invariant-loop-written : goal.invariant-loop-written
invariant-loop-written g l = record {
  within : l.written ≤ length l.bytes;
  bytes : Appends (g.W.Sink.held l.initial.out) (g.W.Sink.held l.out) (take l.written l.bytes);
  counted : g.W.Sink.failures l.out ≡ g.W.Sink.failures l.initial.out;
}

abbrev pub decreases-loop-written : goal.decreases-loop-written
decreases-loop-written g l = length l.bytes - l.written

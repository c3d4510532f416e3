use Rattle.std.proofs.Common.{◌≡◌, take}
use Rattle.std.specs.List.{flat_map}
use Rattle.std.specs.Io.KnownBytes.{Appends}
use Rattle.deb_explain.specs.Escapes.{escaped_byte}
use Rattle.deb_explain.proofs.writing.write_escaped.Given as goal

abbrev pub invariant-loop-byte : goal.invariant-loop-byte
invariant-loop-byte g l = record {
  bytes : Appends (g.W.Sink.held l.initial.out) (g.W.Sink.held l.out) (flat_map escaped_byte (take l.byte-index l.text));
  counted : g.W.Sink.failures l.out ≡ g.W.Sink.failures l.initial.out;
}

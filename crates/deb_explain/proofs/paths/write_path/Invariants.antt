use Rattle.std.proofs.Common.{◌≡◌, take}
use Rattle.std.specs.List.{flat_map}
use Rattle.std.specs.Io.KnownBytes.{Appends}
use Rattle.deb_explain.specs.Paths.{is_plain, path_byte}
use Rattle.deb_explain.proofs.paths.write_path.Given as goal

abbrev pub invariant-loop-byte : goal.invariant-loop-byte
invariant-loop-byte g l = record {
  bytes : Appends (g.W.Sink.held l.initial.out) (g.W.Sink.held l.out) (flat_map (path_byte (is_plain l.path)) (take l.byte-index l.path));
  counted : g.W.Sink.failures l.out ≡ g.W.Sink.failures l.initial.out;
}

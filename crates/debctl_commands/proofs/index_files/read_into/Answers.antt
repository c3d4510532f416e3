use Rattle.std.proofs.Common.{take, drop, map, string_bytes, ◌+◌, refl, arith}
use Rattle.debctl_commands.specs.IndexFiles.{AddsIndex}
use Rattle.debctl_commands.specs.OpenedFiles.{ReadsMore, opener}
use Rattle.debctl_commands.proofs.InOrderSteps.{in_order_more, in_order_stopped}
use Rattle.debctl_commands.proofs.PathLists.{bytes_more, bytes_split, bytes_before}
use Rattle.debctl_commands.proofs.index_files.read_into.Goals as goal

pub loop-path-init : goal.loop-path-init
loop-path-init g c = record { order = (refl, refl); place = refl }

pub loop-path-preserved : goal.loop-path-preserved
loop-path-preserved g c =
    let i = c.loop-path.path-index in
    record {
      order = rw (bytes_more c.args.paths.now i c.path-item.result c.loop-path-test.true c.path-item.is)
          (in_order_more (ReadsMore (opener g.F.Opens.opens g.F.Opens.text g.F.Opens.failures g.F.Reader.Source.left g.F.Reader.Source.failures) (AddsIndex c.args.members)) 1 (map string_bytes (take i c.args.paths.now)) _ c.args.files.now c.loop-path.files c.read_one.new.files c.args.index c.loop-path.index c.in-Ok.more
          c.loop-path.invariant.order (rw c.as_bytes.ensures.value at c.in-Ok.ensures));
      place = omega (arith, c.loop-path.invariant.place);
    }

pub returns-in-Err : goal.returns-in-Err
returns-in-Err g c =
    let i = c.loop-path.path-index in
    rw (bytes_split c.args.paths.now i c.path-item.result c.loop-path-test.true c.path-item.is)
    (in_order_stopped (ReadsMore (opener g.F.Opens.opens g.F.Opens.text g.F.Opens.failures g.F.Reader.Source.left g.F.Reader.Source.failures) (AddsIndex c.args.members)) 1 (map string_bytes (take i c.args.paths.now)) (map string_bytes (drop (i + 1) c.args.paths.now)) _ c.args.files.now c.loop-path.files c.read_one.new.files c.args.index c.loop-path.index _
    c.loop-path.invariant.order (rw c.as_bytes.ensures.value at c.in-Err.ensures) (omega (arith, c.loop-path.invariant.place, bytes_before c.args.paths.now i c.loop-path-test.true)))

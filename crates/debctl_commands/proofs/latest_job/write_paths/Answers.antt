use Rattle.std.proofs.Common.{take, drop, map, string_bytes, ◌+◌, refl}
use Rattle.std.proofs.lemmas.Result.{err_from_is_err_and}
use Rattle.debctl_commands.specs.LatestJob.{WritesPath}
use Rattle.debctl_commands.specs.OpenedFiles.{opener}
use Rattle.debctl_commands.proofs.PathLists.{bytes_more, bytes_split}
use Rattle.debctl_commands.proofs.Turning.{turn_more, turn_stopped}
use Rattle.debctl_commands.proofs.latest_job.write_paths.Goals as goal

pub loop-path-init : goal.loop-path-init
loop-path-init g c = (refl, refl, refl)

pub loop-path-preserved : goal.loop-path-preserved
loop-path-preserved g c =
    let i = c.loop-path.path-index in
    rw (bytes_more c.args.paths.now i c.path-item.result c.loop-path-test.true c.path-item.is)
    (turn_more (WritesPath (opener g.F.Opens.opens g.F.Opens.text g.F.Opens.failures g.F.Reader.Source.left g.F.Reader.Source.failures) g.W.Sink.held g.W.Sink.failures) (map string_bytes (take i c.args.paths.now)) _ c.args.files.now c.loop-path.files c.write_path.new.files
    (c.args.winners.now, c.args.out.now) (c.loop-path.winners, c.loop-path.out) (c.write_path.new.winners, c.write_path.new.out) 0 0 c.loop-path.invariant (rw c.as_bytes.ensures.value at c.in_ok-write_path.ensures))

pub returns-in_err-write_path : goal.returns-in_err-write_path
returns-in_err-write_path g c =
    let p = err_from_is_err_and c.from_residual.result c.from_residual.ensures.1 in
    let i = c.loop-path.path-index in
    rw (p.1, p.2, bytes_split c.args.paths.now i c.path-item.result c.loop-path-test.true c.path-item.is)
    (turn_stopped (WritesPath (opener g.F.Opens.opens g.F.Opens.text g.F.Opens.failures g.F.Reader.Source.left g.F.Reader.Source.failures) g.W.Sink.held g.W.Sink.failures) (map string_bytes (take i c.args.paths.now)) (map string_bytes (drop (i + 1) c.args.paths.now)) _ c.args.files.now c.loop-path.files c.write_path.new.files
    (c.args.winners.now, c.args.out.now) (c.loop-path.winners, c.loop-path.out) (c.write_path.new.winners, c.write_path.new.out) 0 _ c.loop-path.invariant (rw c.as_bytes.ensures.value at c.in_err-write_path.ensures))

-- Each line with a newline is one more piece.
use Rattle.std.proofs.Common.{◌≡◌, ◌<◌, length, replicate, sym, ap, ◌∙◌, subst, arith}
use Rattle.std.specs.Io.KnownBytes.{Appends}
use Rattle.std.specs.List.{flat_map}
use Rattle.std.proofs.lemmas.List.{get_or-replicate, length-replicate, take-replicate}
use Rattle.std.proofs.lemmas.Result.{err_from_is_err_and}
use Rattle.deb_base.specs.Devices.{AppendsFront}
use Rattle.deb_base.proofs.Writes.{AppendsFront-pieces}
use Rattle.deb_version.specs.Kept.{text_of}
use Rattle.deb_sort.proofs.RunLemmas.{ended, lines_ended}
use Rattle.deb_sort.specs.VersionLines.{run_lines}
use Rattle.deb_sort.proofs.sorting.write_run.Goals as goal

pub returns-in_err-put_pieces-clause-written : goal.returns-in_err-put_pieces-clause-written
returns-in_err-put_pieces-clause-written g c =
    let p = err_from_is_err_and c.from_residual.result c.from_residual.ensures.1 in
    let run = c.args.run.now in
    let text = text_of run.line in
    let n = c.loop.counter in
    let below : n < run.count = c.loop-test.true in
    let within : n < length (run_lines run) = omega (arith, below, length-replicate run.count text) in
    let so_far = subst (λ l. Appends (g.W.Sink.held c.args.out.now) (g.W.Sink.held c.loop.out) (flat_map ended l)) (sym (take-replicate n run.count text (omega (arith, below)))) c.loop.invariant.bytes in
    let piece = subst (λ l. AppendsFront (g.W.Sink.held c.loop.out) (g.W.Sink.held c.put_pieces.new.out) (ended l)) (sym (get_or-replicate run.count n text text below))
    (rw c.text.ensures at c.in_err-put_pieces.ensures.written) in
    let front = AppendsFront-pieces ended (run_lines run) n text _ _ _ within so_far piece in
    rw p.1 (subst (λ bytes. AppendsFront (g.W.Sink.held c.args.out.now) (g.W.Sink.held c.put_pieces.new.out) bytes) (sym (lines_ended (run_lines run))) front)

pub returns-clause-written : goal.returns-clause-written
returns-clause-written g c =
    let run = c.args.run.now in
    let all : c.loop.counter ≡ run.count = omega (arith, c.loop-test.false, c.loop.auto.counter-end) in
    subst (λ bytes. Appends (g.W.Sink.held c.args.out.now) (g.W.Sink.held c.loop.out) bytes)
    (ap (λ n. flat_map ended (replicate n (text_of run.line))) all ∙ sym (lines_ended (run_lines run)))
    c.loop.invariant.bytes

-- Each run with its newlines is one more piece.
use Rattle.std.proofs.Common.{ℕ, List, sym, ap, ◌∙◌, subst}
use Rattle.std.specs.Io.KnownBytes.{Appends}
use Rattle.std.specs.List.{flat_map}
use Rattle.std.proofs.lemmas.List.{take_all}
use Rattle.std.proofs.lemmas.Result.{err_from_is_err_and}
use Rattle.deb_base.specs.Devices.{AppendsFront}
use Rattle.deb_base.proofs.Writes.{AppendsFront-pieces}
use Rattle.deb_syntax.specs.Lines.{with_newlines}
use Rattle.deb_sort.proofs.RunLemmas.{runs_ended}
use Rattle.deb_sort.specs.VersionLines.{run_lines}
use Rattle.deb_sort.specs.declared.equal_lines.EqualLines.{EqualLines}
use Rattle.deb_sort.proofs.sorting.write_runs.Goals as goal

abbrev written : EqualLines → List ℕ
written run = with_newlines (run_lines run)

pub returns-in_err-write_run-clause-written : goal.returns-in_err-write_run-clause-written
returns-in_err-write_run-clause-written g c =
    let p = err_from_is_err_and c.from_residual.result c.from_residual.ensures.1 in
    let runs = c.args.runs.now in
    let front = AppendsFront-pieces written runs c.loop-run.run-index c.run-item.result _ _ _ c.loop-run-test.true c.loop-run.invariant.bytes
    (subst (λ (run : EqualLines). AppendsFront (g.W.Sink.held c.loop-run.out) (g.W.Sink.held c.write_run.new.out) (written run)) c.run-item.is c.in_err-write_run.ensures.written) in
    rw p.1 (subst (λ bytes. AppendsFront (g.W.Sink.held c.args.out.now) (g.W.Sink.held c.write_run.new.out) bytes) (sym (runs_ended runs)) front)

pub returns-clause-written : goal.returns-clause-written
returns-clause-written g c =
    let runs = c.args.runs.now in
    subst (λ bytes. Appends (g.W.Sink.held c.args.out.now) (g.W.Sink.held c.loop-run.out) bytes)
    (ap (flat_map written) (take_all c.loop-run.run-index runs c.loop-run-test.false) ∙ sym (runs_ended runs))
    c.loop-run.invariant.bytes

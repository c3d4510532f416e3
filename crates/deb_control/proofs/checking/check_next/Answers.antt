use Rattle.std.proofs.Common.{sym, subst}
use Rattle.std.proofs.lemmas.Result.{err_from_is_err_and}
use Rattle.std.specs.Io.KnownBytes.{Appends}
use Rattle.deb_base.specs.Devices.{AppendsFront}
use Rattle.deb_base.specs.Lines.{refusal_line}
use Rattle.deb_control.specs.WrittenRefusals.{line_written}
use Rattle.deb_control.proofs.WrittenRefusals.{failed_next, one_written, part_written}
use Rattle.deb_control.proofs.checking.check_next.Goals as goal

pub returns-in_err-write_line-in-Some-clause-writes_next : goal.returns-in_err-write_line-in-Some-clause-writes_next
returns-in_err-write_line-in-Some-clause-writes_next g c = λ doc text held has.
    let p = err_from_is_err_and c.from_residual-in_err-write_line-in-Some.result c.from_residual-in_err-write_line-in-Some.ensures.1 in
    let gives = rw c.in-Some.is at c.in_ok-refusal.ensures.gives doc text has.done has.given in
    let line = c.in_err-write_line-in-Some.ensures in
    let old = g.W.Sink.held c.args.writer.now in
    let new = g.W.Sink.held c.write_line.new.out in
    rw (p.1, p.2) (failed_next line_written doc text _ _ held new c.in_err-write_line-in-Some.field-0.0 line.fault (part_written line_written doc text _ _ _ _ held old new c.in-Some.refusal has gives (subst (λ r. AppendsFront old new (refusal_line r)) (sym gives.same) line.written)))

pub returns-in_ok-write_line-in-Some-clause-writes_next : goal.returns-in_ok-write_line-in-Some-clause-writes_next
returns-in_ok-write_line-in-Some-clause-writes_next g c = λ doc text held has.
    let gives = rw c.in-Some.is at c.in_ok-refusal.ensures.gives doc text has.done has.given in
    let old = g.W.Sink.held c.args.writer.now in
    let new = g.W.Sink.held c.write_line.new.out in
    one_written line_written doc text _ _ _ _ held old new c.in-Some.refusal has gives (subst (λ r. Appends old new (refusal_line r)) (sym gives.same) c.in_ok-write_line-in-Some.ensures.written)

-- What is written is all lines, or a prefix of them.
use Rattle.std.proofs.Common.{◌≡◌, ◌↔◌, ◌∙◌, ◌==◌, IsTrue, [], length, ap, sym, subst, rules}
use Rattle.std.specs.Io.KnownBytes.{Appends}
use Rattle.std.proofs.lemmas.Result.{err_from_is_err_and}
use Rattle.deb_control.specs.Pairs.{Pairwise}
use Rattle.deb_base.specs.Devices.{AppendsFront}
use Rattle.deb_diff.specs.Fates.{IsWhole}
use Rattle.deb_diff.specs.Lines.{diff_text}
use Rattle.deb_diff.specs.Written.{WritesSome}
use Rattle.deb_diff.proofs.Assembled.{both_text, no_length, some_written}
use Rattle.deb_diff.proofs.writing.write_lines.Goals as goal

pub returns-clause-ok : goal.returns-clause-ok
returns-clause-ok g c = λ kind text other both.
    let len : c.in_ok-lines.lines.len ≡ length c.in_ok-lines.lines.items = search rules in
    let lent : c.deref-2.result.now ≡ c.in_ok-lines.lines.items = search rules in
    let old : c.deref.result.now ≡ c.args.read.now.old.items = search rules in
    let is = both_text kind c.args.form text other c.args.read.now c.in_ok-lines.lines.items both (λ items added are are_new. c.in_ok-lines.ensures items added (subst (λ l. Pairwise IsWhole l items) (sym old) are) are_new) in
    record {
      old_meaning = both.old_meaning;
      new_meaning = both.new.meaning;
      accepted = both.accepted;
      other_accepted = both.new.accepted;
      written = subst (Appends (g.W.Sink.held c.args.writer.now) (g.W.Sink.held c.put_all.new.out)) (lent ∙ is) c.in_ok-put_all.ensures.written;
      no_line = subst (λ b. IsTrue b ↔ (diff_text kind c.args.form text other both.old_meaning both.new.meaning ≡ [])) (sym (c.is_empty.ensures ∙ ap (λ n. n == 0) len)) (no_length c.in_ok-lines.lines.items (diff_text kind c.args.form text other both.old_meaning both.new.meaning) is);
    }

pub returns-in_err-put_all-clause-write : goal.returns-in_err-put_all-clause-write
returns-in_err-put_all-clause-write g c = λ kind text other both.
    let p = err_from_is_err_and c.from_residual-in_err-put_all.result c.from_residual-in_err-put_all.ensures.1 in
    let lent : c.deref-2.result.now ≡ c.in_ok-lines.lines.items = search rules in
    let old : c.deref.result.now ≡ c.args.read.now.old.items = search rules in
    let is = both_text kind c.args.form text other c.args.read.now c.in_ok-lines.lines.items both (λ items added are are_new. c.in_ok-lines.ensures items added (subst (λ l. Pairwise IsWhole l items) (sym old) are) are_new) in
    rw (p.1) (some_written p.0 (WritesSome kind c.args.form text other (g.W.Sink.held c.args.writer.now) (g.W.Sink.held c.put_all.new.out)) (record {
      old_meaning = both.old_meaning;
      new_meaning = both.new.meaning;
      accepted = both.accepted;
      other_accepted = both.new.accepted;
      written = subst (AppendsFront (g.W.Sink.held c.args.writer.now) (g.W.Sink.held c.put_all.new.out)) (lent ∙ is) c.in_err-put_all.ensures.written;
    }))

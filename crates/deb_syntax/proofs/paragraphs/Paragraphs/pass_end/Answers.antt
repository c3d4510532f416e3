use Rattle.deb_syntax.proofs.Common.{◌≡◌, length, ap, subst, refl, arith, Err, Some, option_map, cursor_state, buffer_of, current_of, passed_count, next_answer, IsReadersFault}
use Rattle.deb_syntax.proofs.Advancing.{limit_reach, near_nothing, hides_nothing}
use Rattle.deb_syntax.proofs.CursorLemmas.{cursor_small}
use Rattle.deb_syntax.proofs.NextLines.{near-short}
use Rattle.deb_syntax.proofs.Positions.{plain_at}
use Rattle.deb_syntax.proofs.Resuming.{reader_passed}
use Rattle.deb_syntax.proofs.paragraphs.Paragraphs.pass_end.Goals as goal

pub invariant_of-self : goal.invariant_of-self
invariant_of-self g c = record {
  near = near-short _ c.in-Ok.ensures.near;
  reach = limit_reach _ (omega (arith, cursor_small c.pass_paragraph.new.cursor, c.in-Ok.ensures.near, c.requires.no_overlong));
  hides = hides_nothing _ (cursor_state c.pass_paragraph.new.cursor) c.requires.no_overlong;
  stands = rw c.requires.none refl;
  judges = c.in-Ok.ensures.stands;
}

pub invariant_of-self-in-Err : goal.invariant_of-self-in-Err
invariant_of-self-in-Err g c = record {
  near = near_nothing _ c.truncate.ensures.keeps.unread;
  reach = limit_reach _ (omega (arith, cursor_small c.truncate.new.self, ap length c.truncate.ensures.keeps.unread, c.requires.no_overlong));
  hides = hides_nothing _ (cursor_state c.truncate.new.self) c.requires.no_overlong;
  stands = rw c.requires.none refl;
  judges = rw c.requires.unjudged refl;
}

pub returns-in-Ok-clause-passes : goal.returns-in-Ok-clause-passes
returns-in-Ok-clause-passes g c = λ text passed fits.
    let old = c.args.self.now in
    let cursor = c.pass_paragraph.new.cursor in
    let plain = plain_at text passed (cursor_state old.cursor) old.overlong_len old.finished _ old.fault _ c.requires.no_overlong fits in
    reader_passed text passed _ (Some c.in-Ok.paragraph) (buffer_of cursor) (cursor_state cursor) old.overlong_len old.finished (option_map (current_of (buffer_of cursor) old.spans.items) old.current) old.fault _ plain.1 c.requires.no_overlong c.requires.unfinished (c.in-Ok.ensures.passes text plain.0)

pub returns-in-Err-clause-refused : goal.returns-in-Err-clause-refused
returns-in-Err-clause-refused g c = λ text passed fits.
    let old = c.args.self.now in
    let plain = plain_at text passed (cursor_state old.cursor) old.overlong_len old.finished _ old.fault _ c.requires.no_overlong fits in
    subst (λ p. IsReadersFault c.in-Err.fault (λ refusal. next_answer text (passed_count p) ≡ Err refusal)) plain.1 (c.in-Err.ensures.refused text plain.0)

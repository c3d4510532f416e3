use Rattle.deb_syntax.proofs.Common.{◌≡◌, ◌∙◌, ◌++◌, Bool, [], length, true, None, Err, refl, ap, subst, arith, length-drop, option_map, cursor_state, buffer_of, State, Fits, state_from, current_of, paragraphs_of, passed_of, passed_count, next_answer, next_begin, IsReadersFault}
use Rattle.deb_syntax.proofs.Advancing.{near_nothing, hides_nothing, long_some, limit_reach, reach_limit}
use Rattle.deb_syntax.proofs.Finding.{begins_kept, begins_overlong, none_left, overlong_begins, stays_none}
use Rattle.deb_syntax.proofs.Positions.{at_cut, plain_at}
use Rattle.deb_syntax.proofs.CursorLemmas.{cursor_small}
use Rattle.deb_syntax.proofs.Takings.{takes_none}
use Rattle.deb_syntax.proofs.paragraphs.Paragraphs.find_first.Goals as goal

pub returns-then-self-clause-first : goal.returns-then-self-clause-first
returns-then-self-clause-first g c = λ text passed fits.
    let old = c.args.self.now in
    let state : Bool → State = λ f. state_from (cursor_state old.cursor) old.overlong_len f (option_map (current_of (buffer_of old.cursor) old.spans.items) old.current) old.fault in
    let finished : Fits text passed (state true) (g.R.Source.left c.args.reader.now) = subst (λ f. Fits text passed (state f) (g.R.Source.left c.args.reader.now)) c.if-self.true fits in
    rw c.if-self.true (stays_none text passed (cursor_state old.cursor) old.overlong_len _ None old.fault _ finished (cursor_small old.cursor))

pub returns-then-self-gt0-clause-first : goal.returns-then-self-gt0-clause-first
returns-then-self-gt0-clause-first g c = λ text passed fits.
    let old = c.args.self.now in
    overlong_begins text passed (cursor_state old.cursor) old.overlong_len old.finished _ old.fault _ fits c.if-self-gt0.true old.hides (cursor_small old.cursor) None old.fault

pub invariant_of-self-in-Ok-NoMore : goal.invariant_of-self-in-Ok-NoMore
invariant_of-self-in-Ok-NoMore g c =
    let shows = rw c.in-Ok-NoMore.field-0-is at c.in-Ok-NoMore.ensures.found in
    record { near = near_nothing _ shows; reach = limit_reach _ (omega (arith, cursor_small c.first_line.new.cursor, ap length shows)); hides = hides_nothing _ (cursor_state c.first_line.new.cursor) (omega arith); stands = refl; judges = refl }

pub invariant_of-self-in-Ok-TooLong : goal.invariant_of-self-in-Ok-TooLong
invariant_of-self-in-Ok-TooLong g c =
    let shows = rw c.in-Ok-TooLong.field-0-is at c.in-Ok-TooLong.ensures.found in
    record { near = shows.2; reach = limit_reach _ shows.3; hides = λ some. (shows.0, shows.1); stands = refl; judges = refl }

pub invariant_of-self-in-Err : goal.invariant_of-self-in-Err
invariant_of-self-in-Err g c =
    record { near = near_nothing _ c.truncate.ensures.keeps.unread; reach = limit_reach _ (omega (arith, cursor_small c.truncate.new.self, ap length c.truncate.ensures.keeps.unread)); hides = hides_nothing _ (cursor_state c.truncate.new.self) (omega arith); stands = refl; judges = refl }

pub returns-in-Ok-NoMore-clause-first : goal.returns-in-Ok-NoMore-clause-first
returns-in-Ok-NoMore-clause-first g c = λ text passed fits.
    let old = c.args.self.now in
    let new = c.first_line.new.cursor in
    let plain = plain_at text passed (cursor_state old.cursor) old.overlong_len old.finished _ old.fault _ (omega arith) fits in
    let first = rw c.in-Ok-NoMore.field-0-is at (c.in-Ok-NoMore.ensures.ahead text plain.0) in
    let a = first.0.0 in
    let unread = rw c.in-Ok-NoMore.field-0-is at c.in-Ok-NoMore.ensures.found in
    none_left text passed (passed_of text (cursor_state new)) [] a.rest (cursor_state new) old.overlong_len None old.fault _ (at_cut text [] (cursor_state new) _ a) (ap (λ zs. zs ++ a.rest) unread ∙ a.ended first.1) (first.0.1 ∙ ap paragraphs_of plain.1) (cursor_small new) a.told (omega arith) tt a.ended

pub returns-in-Ok-Buffered-clause-first : goal.returns-in-Ok-Buffered-clause-first
returns-in-Ok-Buffered-clause-first g c = λ text passed fits.
    let old = c.args.self.now in
    let new = c.first_line.new.cursor in
    let none : old.overlong_len ≡ 0 = omega arith in
    let plain = plain_at text passed (cursor_state old.cursor) old.overlong_len old.finished _ old.fault _ none fits in
    let first = rw c.in-Ok-Buffered.field-0-is at (c.in-Ok-Buffered.ensures.ahead text plain.0) in
    let line = rw c.in-Ok-Buffered.field-0-is at c.in-Ok-Buffered.ensures.found in
    begins_kept text passed (cursor_state old.cursor) (cursor_state new) _ _ _ old.overlong_len old.finished None old.fault plain.1 first line none c.if-self.false (cursor_small new)

pub returns-in-Ok-TooLong-clause-first : goal.returns-in-Ok-TooLong-clause-first
returns-in-Ok-TooLong-clause-first g c = λ text passed fits.
    let old = c.args.self.now in
    let new = c.first_line.new.cursor in
    let plain = plain_at text passed (cursor_state old.cursor) old.overlong_len old.finished _ old.fault _ (omega arith) fits in
    let first = rw c.in-Ok-TooLong.field-0-is at (c.in-Ok-TooLong.ensures.ahead text plain.0) in
    let shows = rw c.in-Ok-TooLong.field-0-is at c.in-Ok-TooLong.ensures.found in
    begins_overlong text passed first.0 (cursor_state old.cursor) (cursor_state new) _ _ old.finished None old.fault plain.1 first.1 first.2 first.3 c.if-self.false (long_some _ shows.0) (λ some. (shows.0, shows.1)) (cursor_small new)

pub returns-in-Ok-TooLong-clause-shows : goal.returns-in-Ok-TooLong-clause-shows
returns-in-Ok-TooLong-clause-shows g c =
    let shows = rw c.in-Ok-TooLong.field-0-is at c.in-Ok-TooLong.ensures.found in
    (long_some _ shows.0, c.if-self.false)

pub returns-in-Err-clause-first : goal.returns-in-Err-clause-first
returns-in-Err-clause-first g c = λ text passed fits.
    let old = c.args.self.now in
    let plain = plain_at text passed (cursor_state old.cursor) old.overlong_len old.finished _ old.fault _ (omega arith) fits in
    subst (λ p. IsReadersFault c.in-Err.fault (λ refusal. (next_answer text (passed_count p) ≡ Err refusal) × (next_begin text (passed_count p) ≡ Err refusal))) plain.1 (c.in-Err.ensures.ahead text plain.0)

pub first_line-requires-clause-reach : goal.first_line-requires-clause-reach
first_line-requires-clause-reach g c = reach_limit _ (omega (arith, c.args.self.now.reach))

pub invariant_of-self-in-Buffered-1 : goal.invariant_of-self-in-Buffered-1
invariant_of-self-in-Buffered-1 g c =
    let line = rw c.in-Ok-Buffered.field-0-is at c.in-Ok-Buffered.ensures.found in
    let unread = (cursor_state c.first_line.new.cursor).unread in
    record {
      near = line.first_near;
      reach = limit_reach _ (omega (arith, line.lines.room, line.lines.near, line.lines.within, length-drop c.in-Ok-Buffered.next unread));
      hides = hides_nothing _ (cursor_state c.first_line.new.cursor) (omega arith);
      stands = refl;
      judges = refl;
    }

pub returns-then-self-clause-reads_at_most : goal.returns-then-self-clause-reads_at_most
returns-then-self-clause-reads_at_most g c = takes_none _ _ _ (reach_limit _ (omega (arith, c.args.self.now.reach)))

pub returns-then-self-gt0-clause-reads_at_most : goal.returns-then-self-gt0-clause-reads_at_most
returns-then-self-gt0-clause-reads_at_most g c = takes_none _ _ _ (reach_limit _ (omega (arith, c.args.self.now.reach)))

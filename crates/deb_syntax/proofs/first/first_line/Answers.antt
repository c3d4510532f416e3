use Rattle.deb_syntax.proofs.Common.{◌∙◌, ◌+◌, Ok, Err, Refused, FileTooLong, Buffered, NoMore, TooLong, subst, refl, arith, cursor_state, IsNextLine}
use Rattle.deb_syntax.proofs.CursorLemmas.{cursor_small}
use Rattle.deb_syntax.proofs.FirstLines.{blank_near, blank_passes, cut_refused, ended_skips, first_after, first_kept, first_long, long_dropped, newlines_had, newlines_near, newlines_skip, whole_skips}
use Rattle.deb_syntax.proofs.Takings.{takes_none, takes_then}
use Rattle.deb_syntax.proofs.first.first_line.Goals as goal

pub walk-init : goal.walk-init
walk-init g c = record {
  skips = λ text a. (a, refl);
  near = c.requires.near;
  reach = c.requires.reach;
  takes = takes_none _ _ _ (omega arith);
  counted = refl;
  quiet = λ e. (e, refl);
}

pub next_line-requires-clause-room : goal.next_line-requires-clause-room
next_line-requires-clause-room g c = omega (arith, cursor_small c.walk.cursor)

pub walk-preserved : goal.walk-preserved
walk-preserved g c =
    let before = cursor_state c.walk.cursor in let mid = cursor_state c.next_line.new.cursor in
    let passed = cursor_state c.consume.new.self in let after = cursor_state c.pass_newlines.new.cursor in
    let left = g.R.Source.left c.walk.reader in let left_after = g.R.Source.left c.next_line.new.reader in
    let counts = c.in_ok-bytes.ensures.counts in
    let line = subst (λ r. IsNextLine 0 before left r mid left_after) c.in-Blank.is c.in_ok-bytes.ensures.line in
    let near = blank_near before mid left left_after counts _ _ passed line c.consume.ensures.passes in
    let (count, within, all, on) = c.pass_newlines.ensures in
    let same = newlines_had passed after left_after count within all on in
    record {
      skips = λ text a.
          let s = c.walk.invariant.skips text a in
          let t = blank_passes before mid left left_after counts text s.0 _ _ passed line c.consume.ensures.passes in
          let u = newlines_skip passed after left_after count within all on text t.0 in
          (u.0, u.1 ∙ t.1 ∙ s.1);
      near = newlines_near passed after left_after count within all on near.0;
      reach = omega (arith, near.1, same);
      takes = takes_then _ _ _ _ _ _ _ _ c.walk.invariant.takes near.2 (omega (arith, same));
      counted = c.in_ok-bytes.ensures.fault_iff_device_failed ∙ c.walk.invariant.counted;
      quiet = λ e. let q = c.walk.invariant.quiet e in (on.ended ∙ c.consume.ensures.passes.ended ∙ counts.ended q.0, c.in_ok-bytes.ensures.source_untouched q.0 ∙ q.1);
    }

pub returns-in-Whole-clause-found : goal.returns-in-Whole-clause-found
returns-in-Whole-clause-found g c =
    let before = cursor_state c.walk.cursor in let mid = cursor_state c.next_line.new.cursor in
    let left = g.R.Source.left c.walk.reader in let left_after = g.R.Source.left c.next_line.new.reader in
    first_kept before mid left left_after c.in_ok-bytes.ensures.counts _ _ (subst (λ r. IsNextLine 0 before left r mid left_after) c.in-Whole.is c.in_ok-bytes.ensures.line)

pub returns-in-Whole-clause-ahead : goal.returns-in-Whole-clause-ahead
returns-in-Whole-clause-ahead g c = λ text a.
    let before = cursor_state c.walk.cursor in let mid = cursor_state c.next_line.new.cursor in
    let left = g.R.Source.left c.walk.reader in let left_after = g.R.Source.left c.next_line.new.reader in
    let s = c.walk.invariant.skips text a in
    first_after text (cursor_state c.args.cursor.now) before mid left_after (Ok (Buffered c.in-Whole.end c.in-Whole.next)) s.1
    (whole_skips before mid left left_after c.in_ok-bytes.ensures.counts text s.0 _ _ (subst (λ r. IsNextLine 0 before left r mid left_after) c.in-Whole.is c.in_ok-bytes.ensures.line))

pub returns-in-Overlong-clause-found : goal.returns-in-Overlong-clause-found
returns-in-Overlong-clause-found g c =
    let before = cursor_state c.walk.cursor in let mid = cursor_state c.next_line.new.cursor in
    let left = g.R.Source.left c.walk.reader in let left_after = g.R.Source.left c.next_line.new.reader in
    first_long before mid left left_after c.in_ok-bytes.ensures.counts _ _ (cursor_state c.consume-in-Overlong.new.self) (subst (λ r. IsNextLine 0 before left r mid left_after) c.in-Overlong.is c.in_ok-bytes.ensures.line) c.consume-in-Overlong.ensures.passes

pub returns-in-Overlong-clause-ahead : goal.returns-in-Overlong-clause-ahead
returns-in-Overlong-clause-ahead g c = λ text a.
    let before = cursor_state c.walk.cursor in let mid = cursor_state c.next_line.new.cursor in let after = cursor_state c.consume-in-Overlong.new.self in
    let left = g.R.Source.left c.walk.reader in let left_after = g.R.Source.left c.next_line.new.reader in
    let s = c.walk.invariant.skips text a in
    first_after text (cursor_state c.args.cursor.now) before after left_after (Ok (TooLong c.in-Overlong.len)) s.1
    (long_dropped before mid left left_after c.in_ok-bytes.ensures.counts text s.0 _ _ after (subst (λ r. IsNextLine 0 before left r mid left_after) c.in-Overlong.is c.in_ok-bytes.ensures.line) c.consume-in-Overlong.ensures.passes)

pub returns-in-Cut-clause-ahead : goal.returns-in-Cut-clause-ahead
returns-in-Cut-clause-ahead g c = λ text a.
    let before = cursor_state c.walk.cursor in let mid = cursor_state c.next_line.new.cursor in
    let left = g.R.Source.left c.walk.reader in let left_after = g.R.Source.left c.next_line.new.reader in
    let s = c.walk.invariant.skips text a in
    first_after text (cursor_state c.args.cursor.now) before mid left_after (Err (Refused (record { code = FileTooLong; line = c.lines.result + 1 }))) s.1
    (cut_refused before mid left left_after c.in_ok-bytes.ensures.counts text s.0 c.lines.result (subst (λ r. IsNextLine 0 before left r mid left_after) c.in-Cut.is c.in_ok-bytes.ensures.line) (cursor_small c.walk.cursor) (c.lines.ensures ∙ c.in_ok-bytes.ensures.counts.lines))

pub returns-in-Ended-clause-ahead : goal.returns-in-Ended-clause-ahead
returns-in-Ended-clause-ahead g c = λ text a.
    let before = cursor_state c.walk.cursor in let mid = cursor_state c.next_line.new.cursor in
    let left = g.R.Source.left c.walk.reader in let left_after = g.R.Source.left c.next_line.new.reader in
    let s = c.walk.invariant.skips text a in
    first_after text (cursor_state c.args.cursor.now) before mid left_after (Ok NoMore) s.1
    (ended_skips before mid left left_after c.in_ok-bytes.ensures.counts text s.0 (subst (λ r. IsNextLine 0 before left r mid left_after) c.in-Ended.is c.in_ok-bytes.ensures.line))

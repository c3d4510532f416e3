use Rattle.deb_syntax.proofs.Common.{[], ◌∙◌, ◌+◌, ◌-◌, ◌≡◌, slice_index, slice_index_or, refl, sym, subst, ap, arith, IsUtf8, AllByRecursion, Ok, err_from_is_err_and, lines_judged, begun_fields}
use Rattle.deb_syntax.specs.LineEnds.{ends_from}
use Rattle.deb_syntax.proofs.Judgements.{judged-step, judged-fault, judged-refused, judged-whole, line_judged-not_utf8, utf8_pieces}
use Rattle.deb_syntax.proofs.LineEnds.{known_line, next_line, no_line, pieces_from-some}
use Rattle.deb_syntax.proofs.judge.judge.Goals as goal

pub loop-end-init : goal.loop-end-init
loop-end-init c =
    let text = c.args.text.now in
    let whole = sym (pieces_from-some text 0 (omega arith)) in
    record {
      left = c.requires.ends ∙ ap (ends_from 0) whole;
      numbered = omega arith;
      reached = omega arith;
      behind = λ some within. absurd (omega (arith, some));
      stands = rw c.clear.ensures.items (record { within = refl; reached = refl; kept = c.new-names.ensures text });
      utf8 = λ is. subst (λ lines. AllByRecursion IsUtf8 lines) whole (utf8_pieces text (c.utf8_front-checked.ensures is));
      so_far = rw c.clear.ensures.items (ap (lines_judged c.args.first_line (Ok (begun_fields text []))) whole);
    }

pub is_line_utf8-requires-clause-within : goal.is_line_utf8-requires-clause-within
is_line_utf8-requires-clause-within c = (next_line c.args.text.now c.args.ends.now c.loop-end.start c.loop-end.end-index c.loop-end.invariant.left c.loop-end-test.true).within

pub is_line_utf8-requires-clause-known : goal.is_line_utf8-requires-clause-known
is_line_utf8-requires-clause-known c =
    let line = next_line c.args.text.now c.args.ends.now c.loop-end.start c.loop-end.end-index c.loop-end.invariant.left c.loop-end-test.true in
    known_line c.args.text.now c.loop-end.start _ _ _ line c.loop-end.invariant.utf8

pub judge_line-requires-clause-within : goal.judge_line-requires-clause-within
judge_line-requires-clause-within c = (next_line c.args.text.now c.args.ends.now c.loop-end.start c.loop-end.end-index c.loop-end.invariant.left c.loop-end-test.true).within

pub returns-then-not-is_line_utf8-clause-fault : goal.returns-then-not-is_line_utf8-clause-fault
returns-then-not-is_line_utf8-clause-fault c =
    let l = c.loop-end in
    let line = next_line c.args.text.now c.args.ends.now l.start l.end-index l.invariant.left c.loop-end-test.true in
    rw c.refused.ensures (judged-refused c.args.text.now c.args.first_line l.number l.start l.spans.items l.invariant.so_far _ _ line.pieces (line_judged-not_utf8 l.number (begun_fields c.args.text.now l.spans.items) _ c.if-not-is_line_utf8.ensures.1))

pub returns-in_err-judge_line-clause-fault : goal.returns-in_err-judge_line-clause-fault
returns-in_err-judge_line-clause-fault c =
    let l = c.loop-end in
    let line = next_line c.args.text.now c.args.ends.now l.start l.end-index l.invariant.left c.loop-end-test.true in
    let p = err_from_is_err_and c.from_residual.result c.from_residual.ensures.1 in
    rw (p.1, p.2) (judged-fault c.args.text.now c.args.first_line l.number l.start l.spans.items l.invariant.so_far _ _ line.pieces c.in_err-judge_line.ensures.fault)

pub loop-end-preserved : goal.loop-end-preserved
loop-end-preserved c =
    let l = c.loop-end in
    let line = next_line c.args.text.now c.args.ends.now l.start l.end-index l.invariant.left c.loop-end-test.true in
    record {
      left = line.others;
      numbered = omega (arith, l.invariant.numbered);
      reached = omega (arith, line.within);
      behind = λ some within.
          let at : slice_index_or c.args.ends.now l.end-index 0 + 1 - 1 ≡ slice_index_or c.args.ends.now l.end-index 0 = omega arith in
          ap (slice_index c.args.text.now) at ∙ line.stopped (omega (arith, within));
      stands = c.in_ok-judge_line.ensures.stands;
      utf8 = λ is. (subst (λ lines. AllByRecursion IsUtf8 lines) line.pieces (l.invariant.utf8 is)).1;
      so_far = judged-step c.args.text.now c.args.first_line l.number l.start l.spans.items l.invariant.so_far _ _ line.pieces c.in_ok-judge_line.ensures.ok;
    }

pub returns-clause-ok : goal.returns-clause-ok
returns-clause-ok c =
    let l = c.loop-end in
    judged-whole c.args.text.now c.args.first_line l.number l.start l.spans.items l.invariant.so_far (no_line c.args.text.now c.args.ends.now l.start l.end-index l.invariant.left (omega (arith, c.loop-end-test.false)))

use Rattle.deb_syntax.proofs.Common.{IfSome, Option, subst, sym, passed_count, state_of}
use Rattle.deb_syntax.specs.Lines.{Paragraph}
use Rattle.deb_syntax.specs.Paragraphs.{judged_last}
use Rattle.deb_syntax.specs.Resuming.{HasPassed}
use Rattle.deb_syntax.proofs.JudgedLines.{shows_end, shows_none}
use Rattle.deb_syntax.proofs.PassingOn.{advances_judged, advances_none, none_found, passed_judged, passes_found, passes_none, shows_judged, some_found}
use Rattle.deb_syntax.specs.Judged.{ShowsJudged}
use Rattle.deb_syntax.specs.Paragraphs.{advance_answer}
use Rattle.deb_syntax.proofs.paragraphs.Paragraphs.find.Goals as goal

pub returns-in-Ok-true-clause-advances : goal.returns-in-Ok-true-clause-advances
returns-in-Ok-true-clause-advances g c =
    let mid = c.pass_on.new.self in
    advances_judged _ _ (judged_last mid) (some_found c.in-Ok-true.field-0 _ c.in-Ok-true.field-0-test c.in-Ok-true.ensures.found) c.in-Ok-true.ensures.judgeable (passes_found c.in-Ok-true.field-0 _ _ _ c.in-Ok-true.field-0-test c.in-Ok-true.ensures.passes) c.judge_passed.result (state_of c.judge_passed.new.self) c.judge_passed.ensures.judges

pub returns-in-Ok-true-clause-judged : goal.returns-in-Ok-true-clause-judged
returns-in-Ok-true-clause-judged g c = λ text passed fits.
    let mid = c.pass_on.new.self in
    subst (ShowsJudged text (passed_count passed) (advance_answer (state_of c.judge_passed.new.self) c.judge_passed.result)) (sym c.judge_passed.ensures.judged)
    (shows_judged _ _ (judged_last mid) (some_found c.in-Ok-true.field-0 _ c.in-Ok-true.field-0-test c.in-Ok-true.ensures.found) c.in-Ok-true.ensures.judgeable (passes_found c.in-Ok-true.field-0 _ _ _ c.in-Ok-true.field-0-test c.in-Ok-true.ensures.passes) c.judge_passed.result (state_of c.judge_passed.new.self) c.judge_passed.ensures.judges text passed fits)

pub returns-in-Ok-true-clause-judged_passed : goal.returns-in-Ok-true-clause-judged_passed
returns-in-Ok-true-clause-judged_passed g c = λ text passed fits.
    let mid = c.pass_on.new.self in
    subst (λ (last : Option Paragraph). IfSome last (λ p. HasPassed text passed p (state_of c.judge_passed.new.self) (g.R.Source.left c.pass_on.new.reader))) (sym c.judge_passed.ensures.judged)
    (passed_judged _ _ (judged_last mid) (some_found c.in-Ok-true.field-0 _ c.in-Ok-true.field-0-test c.in-Ok-true.ensures.found) c.in-Ok-true.ensures.judgeable (passes_found c.in-Ok-true.field-0 _ _ _ c.in-Ok-true.field-0-test c.in-Ok-true.ensures.passes) c.judge_passed.result (state_of c.judge_passed.new.self) c.judge_passed.ensures.judges text passed fits)

pub returns-in-Ok-false-clause-advances : goal.returns-in-Ok-false-clause-advances
returns-in-Ok-false-clause-advances g c = advances_none _ _ (passes_none c.in-Ok-false.field-0 _ _ _ c.in-Ok-false.field-0-test c.in-Ok-false.ensures.passes)

pub returns-in-Ok-false-clause-judged : goal.returns-in-Ok-false-clause-judged
returns-in-Ok-false-clause-judged g c = λ text passed fits.
    let p = passes_none c.in-Ok-false.field-0 _ _ _ c.in-Ok-false.field-0-test c.in-Ok-false.ensures.passes in
    shows_end text passed _ (none_found c.in-Ok-false.field-0 _ c.in-Ok-false.field-0-test c.in-Ok-false.ensures.found) (p.answers text passed fits).answer

pub returns-in-Err-clause-judged : goal.returns-in-Err-clause-judged
returns-in-Err-clause-judged g c = λ text passed fits.
    shows_none text passed c.in-Err.fault _ c.in-Err.ensures.none (c.in-Err.ensures.passes.answers text passed fits) c.in-Err.ensures.passes.fault

use Rattle.std.proofs.Common.{◌++◌, append-nil, drop_of_length-le, arith, sym, ap, ◌∙◌}
use Rattle.deb_control.proofs.GivenValues.{pairwise-length}
use Rattle.deb_install.specs.Answers.{answer_at}
use Rattle.deb_install.specs.KeptSources.{HoldsSource}
use Rattle.deb_install.specs.SourceAnswers.{source_lines, source_lines_from}
use Rattle.deb_install.proofs.NextOf.{next-of}
use Rattle.deb_install.proofs.SourceLines.{source-next}
use Rattle.deb_install.proofs.source_lines.lines_of_sources.Goals as goal

pub loop-count-init : goal.loop-count-init
loop-count-init c = λ kind meaning are.
    ap (λ text. text ++ source_lines kind (answer_at c.args.every.now c.args.one.now) meaning) c.new-text.ensures.items

pub loop-count-preserved : goal.loop-count-preserved
loop-count-preserved c = λ kind meaning are.
    source-next kind (answer_at c.args.every.now c.args.one.now) meaning c.loop-count.count c.index-sources-count.result c.loop-count.text.items c.append_answer.new.out.items _
    (next-of (HoldsSource kind) meaning c.args.sources.now c.loop-count.count c.index-sources-count.result c.loop-count-test.true c.index-sources-count.is are)
    (rw c.answer_at-answer.ensures at c.in_ok-append_answer.ensures) (c.loop-count.invariant kind meaning are)

pub returns : goal.returns
returns c = λ kind meaning are.
    let answer = answer_at c.args.every.now c.args.one.now in
    let long = pairwise-length (HoldsSource kind) meaning c.args.sources.now are in
    sym (append-nil c.loop-count.text.items)
    ∙ ap (λ left. c.loop-count.text.items ++ source_lines_from kind answer c.loop-count.count left) (sym (drop_of_length-le meaning (omega (arith, c.loop-count-test.false, long))))
    ∙ c.loop-count.invariant kind meaning are

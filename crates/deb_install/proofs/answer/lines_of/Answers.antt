use Rattle.std.proofs.Common.{◌++◌, ap, subst, ◌<◌, ◌≤◌}
use Rattle.deb_index.specs.Indexes.{packages_of}
use Rattle.deb_install.specs.Answers.{answer_at, answer_lines, asked_line, names_in}
use Rattle.deb_install.proofs.AnswerLines.{lines-end, lines-next}
use Rattle.deb_install.proofs.answer.lines_of.Goals as goal

pub loop-count-init : goal.loop-count-init
loop-count-init c =
    ap (λ text. text ++ answer_lines (names_in c.args.names.now) (answer_at c.args.every.now c.args.one.now) (packages_of c.args.index.now)) c.new-text.ensures.items

pub loop-count-preserved : goal.loop-count-preserved
loop-count-preserved c =
    lines-next (λ p. asked_line (names_in c.args.names.now) (answer_at c.args.every.now c.args.one.now p.0) p) (packages_of c.args.index.now) c.loop-count.count c.loop-count.text.items c.append_answer.new.out.items _
    (subst (λ n. c.loop-count.count < n) c.len-count-end.ensures c.loop-count-test.true)
    (rw c.answer_at-answer.ensures at c.in_ok-append_answer.ensures) c.loop-count.invariant

pub returns : goal.returns
returns c =
    lines-end (λ p. asked_line (names_in c.args.names.now) (answer_at c.args.every.now c.args.one.now p.0) p) (packages_of c.args.index.now) c.loop-count.count c.loop-count.text.items _
    (subst (λ n. n ≤ c.loop-count.count) c.len-count-end.ensures c.loop-count-test.false) c.loop-count.invariant

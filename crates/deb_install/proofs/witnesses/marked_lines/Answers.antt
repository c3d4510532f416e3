use Rattle.std.proofs.Common.{◌++◌, ap, subst, ◌<◌, ◌≤◌}
use Rattle.deb_index.specs.Indexes.{packages_of}
use Rattle.deb_solve.specs.Marks.{marked}
use Rattle.deb_install.specs.Witnesses.{member_line, set_lines}
use Rattle.deb_install.proofs.AnswerLines.{lines-end, lines-next}
use Rattle.deb_install.proofs.witnesses.marked_lines.Goals as goal

pub loop-count-init : goal.loop-count-init
loop-count-init c =
    ap (λ lines. lines ++ set_lines (marked c.args.marks.now) (packages_of c.args.index.now)) c.new-lines.ensures.items

pub loop-count-preserved : goal.loop-count-preserved
loop-count-preserved c =
    lines-next (member_line (marked c.args.marks.now)) (packages_of c.args.index.now) c.loop-count.count c.loop-count.lines.items c.append_member.new.out.items _
    (subst (λ n. c.loop-count.count < n) c.len-count-end.ensures c.loop-count-test.true)
    c.in_ok-append_member.ensures c.loop-count.invariant

pub returns : goal.returns
returns c =
    lines-end (member_line (marked c.args.marks.now)) (packages_of c.args.index.now) c.loop-count.count c.loop-count.lines.items _
    (subst (λ n. n ≤ c.loop-count.count) c.len-count-end.ensures c.loop-count-test.false) c.loop-count.invariant

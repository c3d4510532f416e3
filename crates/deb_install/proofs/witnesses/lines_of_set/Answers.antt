use Rattle.std.proofs.Common.{◌∙◌, ap}
use Rattle.deb_index.specs.Indexes.{packages_of}
use Rattle.deb_solve.specs.Marks.{marked}
use Rattle.deb_install.specs.Witnesses.{set_lines}
use Rattle.deb_install.proofs.FileAnswers.{if-value}
use Rattle.deb_install.proofs.SetLines.{same-lines}
use Rattle.deb_install.proofs.witnesses.lines_of_set.Goals as goal

pub returns : goal.returns
returns c =
    if-value _ _
    (λ lines is. is ∙ ap (λ marks. set_lines (marked marks) (packages_of c.args.index.now)) c.deref.ensures.value
    ∙ same-lines (packages_of c.args.index.now) c.in_ok-marks.marks.items c.args.members.now _ c.len.ensures c.in_ok-marks.ensures)
    c.marked_lines.result c.marked_lines.ensures

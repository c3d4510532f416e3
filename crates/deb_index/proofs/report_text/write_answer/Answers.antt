use Rattle.deb_base.proofs.Writes.{Puts-then}
use Rattle.deb_index.specs.ReportText.{group_line}
use Rattle.deb_index.specs.Reported.{answer_of}
use Rattle.deb_index.proofs.report_text.write_answer.Goals as goal

pub returns-clause-written : goal.returns-clause-written
returns-clause-written g c =
    Puts-then _ _ _ (group_line (answer_of c.args.answer.now)) _ c.write_packages.result c.in_ok-write_group.ensures.written (rw c.packages.ensures at c.write_packages.ensures.written)

use Rattle.std.proofs.Common.{ap, sym, ◌∙◌}
use Rattle.deb_index.specs.Reports.{all_met}
use Rattle.deb_index.specs.Reported.{report_of}
use Rattle.deb_index.proofs.Details.{answers_cut}
use Rattle.deb_index.proofs.why.DetailedReport.all_met.Goals as goal

pub returns : goal.returns
returns c =
    let detailed = c.args.self.now in
    c.all_met.ensures ∙ ap all_met (sym (answers_cut (report_of detailed.report) detailed.reasons.items detailed.lens.items))

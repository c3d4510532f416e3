use Rattle.std.proofs.Common.{not, sym, ap, ◌∙◌}
use Rattle.std.specs.List.{list_all}
use Rattle.deb_index.specs.Indexes.{packages_of}
use Rattle.deb_index.specs.Reports.{is_unmet}
use Rattle.deb_index.proofs.Answered.{verdicts}
use Rattle.deb_index.proofs.report.Report.all_met.Goals as goal

pub returns : goal.returns
returns c =
    let report = c.args.self.now in
    c.none_unmet.ensures ∙ ap (list_all (λ span. not (is_unmet span.verdict))) c.deref.ensures.value
    ∙ sym (verdicts (packages_of report.index.now) report.answers.texts.items report.answers.numbers.items report.answers.spans.items)

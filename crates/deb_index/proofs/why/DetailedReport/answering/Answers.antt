use Rattle.std.proofs.Common.{sym, ◌∙◌}
use Rattle.deb_index.specs.Asked.{relation_asked}
use Rattle.deb_index.proofs.TextPieces.{canonical, text_regular}
use Rattle.deb_index.proofs.why.DetailedReport.answering.Goals as goal

pub of-requires : goal.of-requires
of-requires c = canonical c.deref.result.now (relation_asked c.args.question.now) (text_regular c.args.question.now.relation) (c.deref.ensures.value ∙ c.in_ok-text.ensures)

pub returns-clause-reports : goal.returns-clause-reports
returns-clause-reports c = (
  sym c.has_wildcard.ensures ∙ c.if-has_wildcard.false,
  c.in_ok-report.ensures.details (relation_asked c.args.question.now) (text_regular c.args.question.now.relation) (c.deref.ensures.value ∙ c.in_ok-text.ensures),
)

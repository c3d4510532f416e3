use Rattle.std.proofs.Common.{sym, ◌∙◌}
use Rattle.deb_field.proofs.SourceLemmas.{open-none, open-some, cut-before, cut-behind}
use Rattle.deb_field.proofs.source.cut_at_open.Goals as goal

pub returns-then-at-body : goal.returns-then-at-body
returns-then-at-body c = open-none c.args.body.now (sym c.open_at-at.ensures.value ∙ c.if-at-body.true)

pub returns-else-at-body : goal.returns-else-at-body
returns-else-at-body c = (
  open-some c.args.body.now (λ e. c.if-at-body.false (c.open_at-at.ensures.value ∙ e)),
  cut-before c.args.body.now c.open_at-at.result c.open_at-at.ensures.value,
  cut-behind c.args.body.now c.open_at-at.result c.open_at-at.ensures.value,
)

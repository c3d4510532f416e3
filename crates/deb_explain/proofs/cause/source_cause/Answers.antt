use Rattle.std.proofs.Common.{sym, refl, ap, ◌∙◌}
use Rattle.deb_field.specs.Sources.{without_last}
use Rattle.deb_field.proofs.SourceLemmas.{open-none, open-some, cut-behind}
use Rattle.deb_explain.proofs.Sources.{source_found}
use Rattle.deb_explain.proofs.cause.source_cause.Goals as goal

pub returns-then-open-body : goal.returns-then-open-body
returns-then-open-body c = rw (open-none c.args.body.now (sym c.open_at-open.ensures.value ∙ c.if-open-body.true)) refl

pub returns : goal.returns
returns c =
    let body = c.args.body.now in
    let at = c.open_at-open.ensures.value in
    c.version_fault.ensures
    ∙ source_found body c.without_last-within.result.now c.trimmed.result.now c.open_at-open.result c.leading_blanks.result
    (open-some body (λ e. c.if-open-body.false (at ∙ e))) at (c.without_last-within.ensures ∙ ap without_last (cut-behind body c.open_at-open.result at))
    c.leading_blanks.ensures.value c.trimmed.ensures

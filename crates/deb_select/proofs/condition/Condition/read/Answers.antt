use Rattle.std.proofs.Common.{◌∙◌, sym}
use Rattle.std.proofs.lemmas.Result.{err_from_is_err_and}
use Rattle.deb_select.specs.Kept.{parts_shown}
use Rattle.deb_select.proofs.Spelled.{only-memory, read-accepted, read-condition, read-unrefused}
use Rattle.deb_select.proofs.condition.Condition.read.Goals as goal

pub returns-in_err-test-clause-accepted : goal.returns-in_err-test-clause-accepted
returns-in_err-test-clause-accepted c = λ meaning spells.
    let p = err_from_is_err_and c.from_residual.result c.from_residual.ensures.1 in
    rw (p.1, p.2)
    (only-memory c.args.doc meaning _ c.in_err-test.field-0.0 c.in_err-test.ensures.refused
    (read-unrefused c.args.doc c.args.text.now (parts_shown c.of-parts.result) c.kind_of.result c.of-parts.ensures c.kind_of.ensures meaning spells))

pub returns-in-Ok-clause-ok : goal.returns-in-Ok-clause-ok
returns-in-Ok-clause-ok c =
    read-condition c.args.doc c.args.text.now (parts_shown c.of-parts.result) c.kind_of.result c.of-parts.ensures c.kind_of.ensures _
    (sym c.is_field_name.ensures ∙ c.if-not-is_field_name.false) c.in_ok-test.ensures.ok c.in-Ok.ensures.ok

pub returns-in-Ok-clause-accepted : goal.returns-in-Ok-clause-accepted
returns-in-Ok-clause-accepted c = λ meaning spells.
    read-accepted c.args.doc c.args.text.now (parts_shown c.of-parts.result) c.kind_of.result c.of-parts.ensures c.kind_of.ensures _ (returns-in-Ok-clause-ok c) meaning spells

use Rattle.deb_control.proofs.Common.{refl, err_from_is_err_and, goes-from_passes, Begins}
use Rattle.deb_control.proofs.Checks.{few-totals, checks-begins_err, checks-begins_none, checks-begins_some}
use Rattle.deb_control.proofs.RefusedLines.{without_error}
use Rattle.deb_control.proofs.Resuming.{is_inside-none, is_inside-same}
use Rattle.deb_control.proofs.find.none_follows.Goals as goal

pub returns-in_err-begins-clause-checks : goal.returns-in_err-begins-clause-checks
returns-in_err-begins-clause-checks g c = λ shown shown_now kept kept_now doc totals given complete.
    let p = err_from_is_err_and c.from_residual.result c.from_residual.ensures.1 in
    let begins = goes-from_passes Begins _ _ _ c.requires.sound c.in_err-begins.ensures.passes in
    rw (p.1, p.2) (checks-begins_err doc shown shown_now kept kept_now _ _ totals.paragraphs totals.bytes _ _ _ _ (few-totals totals) complete c.in_err-begins.field-0.0 begins)

pub returns-in-None-clause-checks : goal.returns-in-None-clause-checks
returns-in-None-clause-checks g c = λ shown shown_now kept kept_now doc totals given complete.
    let begins = goes-from_passes Begins _ _ _ c.requires.sound (rw c.in-None.is at c.in_ok-begins.ensures.passes) in
    checks-begins_none doc shown shown_now kept kept_now _ _ totals.paragraphs totals.bytes _ _ _ _ (few-totals totals) complete begins

pub returns-in-Some-clause-checks : goal.returns-in-Some-clause-checks
returns-in-Some-clause-checks g c = λ shown shown_now kept kept_now doc totals given complete.
    let begins = goes-from_passes Begins _ _ _ c.requires.sound (rw c.in-Some.is at c.in_ok-begins.ensures.passes) in
    rw c.refused.ensures (checks-begins_some doc shown shown_now kept kept_now _ _ totals.paragraphs totals.bytes _ _ _ _ (few-totals totals) complete c.in-Some.line begins)

pub returns-in-None-clause-none : goal.returns-in-None-clause-none
returns-in-None-clause-none g c = (refl, (goes-from_passes Begins _ _ _ c.requires.sound (rw c.in-None.is at c.in_ok-begins.ensures.passes)).current)

pub returns-in_err-begins-clause-inside : goal.returns-in_err-begins-clause-inside
returns-in_err-begins-clause-inside g c =
    let p = err_from_is_err_and c.from_residual.result c.from_residual.ensures.1 in
    rw (p.1, p.2) (is_inside-same c.in_err-begins.field-0.0 _ (without_error _ _ c.requires.sound c.in_err-begins.ensures.passes.keeps))

pub returns-in-Some-clause-inside : goal.returns-in-Some-clause-inside
returns-in-Some-clause-inside g c = is_inside-none c.refused.result _ (without_error _ _ c.requires.sound (rw c.in-Some.is at c.in_ok-begins.ensures.passes).keeps)

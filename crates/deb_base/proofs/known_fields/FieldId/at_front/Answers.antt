use Rattle.std.proofs.Common.{arith, refl, sym, ◌∙◌}
use Rattle.std.proofs.lemmas.Bool.{false_from_ne_true, true≢false}
use Rattle.deb_base.proofs.BegunRows.{known, one_more, unknown}
use Rattle.deb_base.proofs.known_fields.FieldId.at_front.Goals as goal

-- the names in the rows before have other first bytes
pub loop-row-init : goal.loop-row-init
loop-row-init c row within before =
    false_from_ne_true _ (λ is. absurd (omega (arith, before, (c.likely_rows-rows.ensures row within is).0)))

pub loop-row-preserved : goal.loop-row-preserved
loop-row-preserved c =
    one_more c.args.line.now c.loop-row.row c.loop-row.invariant (λ within. sym (c.in_default.ensures.some_iff_begins within))

pub returns-in-Some-clause-some_iff_known :
    goal.returns-in-Some-clause-some_iff_known
returns-in-Some-clause-some_iff_known c =
    let is = c.in-Some.ensures in
    let within = is.known refl in
    sym (known c.args.line.now c.loop-row.row within (sym (is.some_iff_begins within)))

-- the names in the rows after have other first bytes
pub returns-clause-some_iff_known : goal.returns-clause-some_iff_known
returns-clause-some_iff_known c =
    sym (unknown c.args.line.now (λ row within. false_from_ne_true _ (λ is.
    let between = c.likely_rows-rows.ensures row within is in
    true≢false (sym is ∙ c.loop-row.invariant row within (omega (arith, between, c.loop-row-test.false))))))

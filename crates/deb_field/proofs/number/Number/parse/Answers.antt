use Rattle.std.proofs.Common.{sym, ◌∙◌}
use Rattle.deb_field.proofs.NumberLemmas.{spells-value, canonical-again, are_digits-again}
use Rattle.deb_field.proofs.number.Number.parse.Goals as goal

pub invariant_of-result : goal.invariant_of-result
invariant_of-result c = record {
  well_formed = are_digits-again c.args.body.now c.without_leading_zeros.result.now c.without_leading_zeros.ensures;
  canonical = canonical-again c.args.body.now c.without_leading_zeros.result.now c.without_leading_zeros.ensures;
}

pub returns-clause-ok : goal.returns-clause-ok
returns-clause-ok c = spells-value c.args.body.now c.without_leading_zeros.result.now (sym c.are_digits.ensures ∙ c.if-not-are_digits.false) c.without_leading_zeros.ensures

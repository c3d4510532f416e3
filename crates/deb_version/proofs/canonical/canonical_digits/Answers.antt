-- The digits that are left are written, and else nothing or one zero.
use Rattle.deb_version.proofs.Common.{sym, ◌∙◌, inl, inr, is_ascii_digit, cut_of}
use Rattle.deb_version.proofs.ByteLemmas.{all_pass-fact}
use Rattle.deb_version.proofs.CanonicalCuts.{number_written, number_left_out, number_zero}
use Rattle.deb_version.proofs.canonical.canonical_digits.Goals as goal
use Rattle.deb_version.proofs.canonical.canonical_digits.Goals.{else-is_last-via-then-is_last+else-ends_in_letter, else-is_last-via-else-is_last}

pub returns-then-not-is_empty : goal.returns-then-not-is_empty
returns-then-not-is_empty c =
    number_written (cut_of c.args.cut) c.without_zeros-digits.result.now c.without_zeros-digits.ensures c.args.is_last
    (all_pass-fact is_ascii_digit c.args.cut.run.now c.args.cut.run_digits) (sym c.is_empty.ensures ∙ c.if-not-is_empty.true)

pub returns-then-ends_in_letter : goal.returns-then-ends_in_letter
returns-then-ends_in_letter c =
    number_left_out (cut_of c.args.cut) c.without_zeros-digits.result.now c.without_zeros-digits.ensures c.args.is_last
    (sym c.is_empty.ensures ∙ c.if-not-is_empty.false) c.if-is_last.true (sym c.ends_in_letter.ensures ∙ c.if-ends_in_letter.true)

pub returns-else-is_last : goal.returns-else-is_last
returns-else-is_last c =
    number_zero (cut_of c.args.cut) c.without_zeros-digits.result.now c.without_zeros-digits.ensures c.args.is_last
    (sym c.is_empty.ensures ∙ c.if-not-is_empty.false)
    (elim c.else-is_last.branch [
      | else-is_last-via-then-is_last+else-ends_in_letter w ↦ inr (sym w.ends_in_letter.ensures ∙ w.if-ends_in_letter.false)
      | else-is_last-via-else-is_last w ↦ inl w.if-is_last.false
    ])

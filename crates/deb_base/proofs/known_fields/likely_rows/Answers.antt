use Rattle.std.proofs.Common.{◌≡◌, ◌<◌, ◌≤◌, ℕ, true, arith, get_or, nat_le, nat_lt, sym, subst}
use Rattle.std.proofs.lemmas.Bool.{leb-true, ltb-true}
use Rattle.deb_base.proofs.LikelyRows.{four_bytes, likely}
use Rattle.deb_base.proofs.known_fields.likely_rows.Goals as goal

-- each name has three bytes or more, and a colon after it
pub returns-in_default : goal.returns-in_default
returns-in_default c row within starts =
    absurd (omega (arith, c.in_default.len_below, four_bytes c.args.text.now row within starts))

pub returns : goal.returns
returns c row within starts =
    let line = c.args.text.now in
    let first = c.first_likely.result.now in
    let end = c.end_likely.result.now in
    let number = sym c.front_number-number.ensures.number in
    let first_is : nat_le (get_or first c.front_number-number.result 0) row ≡ true = subst (λ n. nat_le (get_or first n 0) row ≡ true) number (likely line row within starts (λ row likely. nat_le likely row) first c.first_likely.ensures) in
    let end_is : nat_lt row (get_or end c.front_number-number.result 0) ≡ true = subst (λ n. nat_lt row (get_or end n 0) ≡ true) number (likely line row within starts nat_lt end c.end_likely.ensures) in
    (leb-true _ row first_is, ltb-true row _ end_is)

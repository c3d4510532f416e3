-- Without leading zeros the longer run is greater, and at one length the digits decide.
use Rattle.deb_version.proofs.Common.{◌≡◌, ◌∙◌, length, sym, rules, nat_cmp, slice_cmp}
use Rattle.std.specs.FinMap.{nat_cmp-IsAntisymmetric}
use Rattle.deb_version.proofs.NumberOrder.{value_of-order-at}
use Rattle.deb_version.proofs.Walks.{not_ne, then-ne, then-eq}
use Rattle.deb_version.proofs.order.compare_runs.Goals as goal

pub returns-then-is_ne : goal.returns-then-is_ne
returns-then-is_ne c =
    let a = c.without_zeros-a.result.now in
    let b = c.without_zeros-b.result.now in
    c.cmp-order.ensures
    ∙ sym (then-ne (nat_cmp (length a) (length b)) (slice_cmp nat_cmp a b) (search rules))
    ∙ value_of-order-at c.args.a.now c.args.b.now a b c.requires.a_digits c.requires.b_digits c.without_zeros-a.ensures c.without_zeros-b.ensures

pub returns : goal.returns
returns c =
    let a = c.without_zeros-a.result.now in
    let b = c.without_zeros-b.result.now in
    let same_length : length a ≡ length b = nat_cmp-IsAntisymmetric (length a) (length b) (not_ne (nat_cmp (length a) (length b)) (search rules)) in
    c.compare_digits.ensures same_length
    ∙ sym (then-eq (nat_cmp (length a) (length b)) (slice_cmp nat_cmp a b) (search rules))
    ∙ value_of-order-at c.args.a.now c.args.b.now a b c.requires.a_digits c.requires.b_digits c.without_zeros-a.ensures c.without_zeros-b.ensures

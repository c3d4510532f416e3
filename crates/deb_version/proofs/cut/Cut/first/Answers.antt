-- The first cut is a text up to the first digit, and a run up to the next byte that is no digit.
use Rattle.deb_version.proofs.Common.{◌∙◌, ap, length, unwrap_or}
use Rattle.deb_version.proofs.FirstCut.{IsFirstCut, first_cut}
use Rattle.deb_version.proofs.cut.Cut.first.Goals as goal

pub invariant_of-result : goal.invariant_of-result
invariant_of-result c =
    let first : IsFirstCut c.args.bytes.now c.split_at.result.0.now c.split_at-2.result.0.now c.split_at-2.result.1.now =
    first_cut _ _ _ _ _ _ _ (c.unwrap_or.ensures ∙ ap (λ o. unwrap_or o (length c.args.bytes.now)) c.first_digit.ensures) c.split_at.ensures.front c.split_at.ensures.back
    (c.unwrap_or-2.ensures ∙ ap (λ o. unwrap_or o (length c.split_at.result.1.now)) c.first_other.ensures) c.split_at-2.ensures.front c.split_at-2.ensures.back in
    record { run_digits = first.run_digits }

pub returns : goal.returns
returns c =
    let first : IsFirstCut c.args.bytes.now c.split_at.result.0.now c.split_at-2.result.0.now c.split_at-2.result.1.now =
    first_cut _ _ _ _ _ _ _ (c.unwrap_or.ensures ∙ ap (λ o. unwrap_or o (length c.args.bytes.now)) c.first_digit.ensures) c.split_at.ensures.front c.split_at.ensures.back
    (c.unwrap_or-2.ensures ∙ ap (λ o. unwrap_or o (length c.split_at.result.1.now)) c.first_other.ensures) c.split_at-2.ensures.front c.split_at-2.ensures.back in
    record { cuts = first.cuts; shorter = first.shorter }

use Rattle.std.proofs.Common.{◌≡◌, ◌∙◌, ◌+◌, ◌<◌, true, length, take, slice_index, subst, sym, arith}
use Rattle.std.proofs.lemmas.Bool.{eqb-true}
use Rattle.std.proofs.lemmas.List.{take_rest}
use Rattle.deb_base.specs.Bodies.{is_all_blank, newline}
use Rattle.debctl_ffi.proofs.BlankTexts.{closing-two}
use Rattle.debctl_ffi.proofs.kept.closing_len.Goals as goal

pub returns-clause-closing : goal.returns-clause-closing
returns-clause-closing c =
    let text = c.args.text.now in
    let n = c.in_ok-first.first in
    let m = c.in_ok-second.second in
    let first = c.in_ok-first.ensures in
    let second = c.in_ok-second.ensures in
    let rest = take_rest text (n + 1) in
    closing-two text n m first.0.high (eqb-true _ _ first.1)
    (subst (λ zs. m < length zs) rest second.0.high)
    (subst (λ zs. slice_index zs m ≡ newline) rest (eqb-true _ _ second.1))
    (omega (arith, c.if-second-ge-PARAGRAPH_LIMIT.false))
    (subst (λ zs. is_all_blank (take m zs) ≡ true) rest (sym c.is_only_blanks.ensures ∙ c.if-not-is_only_blanks.false))

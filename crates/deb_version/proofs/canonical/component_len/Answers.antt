use Rattle.deb_version.proofs.Common.{◌+◌, ◌≤◌, ◌==◌, ◌++◌, ◌∙◌, length, ap, arith, length-append, cut_of, parts_of, has_parts}
use Rattle.deb_version.proofs.CanonicalComponent.{length-component_text}
use Rattle.deb_version.proofs.CanonicalCuts.{number_text, rest_text, component_text-first}
use Rattle.deb_version.proofs.canonical.component_len.Goals as goal
use Rattle.deb_version.proofs.canonical.component_len.Goals.{After-canonical_digits}

-- what is counted so far, with the cut's text and number, is no more than the whole canonical text
within : (c : After-canonical_digits) → c.loop-after.len + (length c.first.result.0.text.now + length c.canonical_digits.result.now) ≤ length c.args.component.now + 1
within c =
    let cut = cut_of c.first.result.0 in
    let after = c.first.result.1.now in
    let whole = length-component_text c.args.component.now (parts_of c.args.component.now) (has_parts c.args.component.now) in
    let first = ap length (component_text-first c.loop-after.rest.now after cut c.first.ensures.cuts) in
    let front = length-append cut.0 (number_text cut (length after == 0) ++ rest_text after) in
    let back = length-append (number_text cut (length after == 0)) (rest_text after) in
    let number = ap length (c.canonical_digits.ensures ∙ ap (number_text cut) c.is_empty.ensures) in
    omega (arith, c.loop-after.invariant, whole, first, front, back, number)

pub overflow_add-len-in-loop-after : goal.overflow_add-len-in-loop-after
overflow_add-len-in-loop-after c = omega (arith, within c)

pub returns-then-is_empty-clause-bound : goal.returns-then-is_empty-clause-bound
returns-then-is_empty-clause-bound c = within (goal.at.returns-then-is_empty-clause-bound c).After-canonical_digits

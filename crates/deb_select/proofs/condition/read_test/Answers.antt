use Rattle.std.proofs.Common.{◌≡◌, ◌∙◌, sym, ap, subst, cond, None, Some, IfErr, option_map}
use Rattle.deb_select.specs.Grammar.{Contain, operator_in, operator_refused}
use Rattle.deb_select.specs.Kept.{parts_shown}
use Rattle.deb_select.specs.Reads.{Tells, operator_shown, test_refused}
use Rattle.deb_select.proofs.condition.read_test.Goals as goal

pub returns-in-Some-Contain-clause-refused : goal.returns-in-Some-Contain-clause-refused
returns-in-Some-Contain-clause-refused c =
    let parts = parts_shown c.args.parts.now in
    let operator : operator_in parts.operator ≡ Some Contain =
    sym c.operator_of.ensures ∙ ap (option_map operator_shown) c.in-Some-Contain.is ∙ ap (λ o. Some (operator_shown o)) c.in-Some-Contain.field-0-is in
    let refused : operator_refused c.args.kind parts (Some Contain) ≡ test_refused c.args.kind parts =
    sym (ap (operator_refused c.args.kind parts) operator) ∙ ap (λ t. cond t None (operator_refused c.args.kind parts (operator_in parts.operator))) (sym (sym c.is_empty.ensures ∙ c.if-is_empty.false)) in
    subst (λ r. IfErr c.read_part.result (Tells r)) refused (c.read_part.ensures.refused c.args.kind)

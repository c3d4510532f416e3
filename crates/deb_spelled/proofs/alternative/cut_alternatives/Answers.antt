use Rattle.std.proofs.Common.{◌≡◌, suc, ◌+◌, ap, sym, subst, ◌∙◌, arith, rules}
use Rattle.std.specs.Option.{option_map}
use Rattle.deb_spelled.specs.Alternatives.{cut_behind}
use Rattle.deb_spelled.proofs.SoFar.{IsSoFar, none_yet, one_more}
use Rattle.deb_spelled.proofs.alternative.cut_alternatives.Goals as goal

pub loop-init : goal.loop-init
loop-init c = none_yet _ _ c.new-alternatives.ensures.items

pub loop-preserved : goal.loop-preserved
loop-preserved c =
    let found = sym c.next_alternative.ensures ∙ ap (option_map cut_behind) c.in-Some.is in
    let next : suc c.loop.counter ≡ c.loop.counter + 1 = omega arith in
    subst (λ n. IsSoFar c.args.text.now c.push.new.self.items c.in-Some.alternative.group c.in-Some.behind.now n) next
    (one_more _ _ _ _ _ _ _ c.in-Some.alternative c.loop.invariant (search rules) found (search rules))

use Rattle.deb_control.proofs.Common.{◌≡◌, ◌==◌, ◌∙◌, sym, refl, ℕ, ◌<◌, ◌≤◌, ◌-◌, length, get_or, Bool, List, [], ◌∷◌, Less, arith, capitalised, byte_order}
use Rattle.deb_control.proofs.NameFronts.{order-rest}
use Rattle.deb_control.proofs.name.compare.Goals as goal
use Rattle.deb_control.proofs.name.compare.Goals.{then-same-gt0, else-same-gt0}

-- nothing comes before something
nothing_first : (begins : Bool) (name other : List ℕ) → length name < 1 → 1 ≤ length other → byte_order (capitalised begins name) (capitalised begins other) ≡ Less
nothing_first begins [] [] none some = absurd (omega (arith, some))
nothing_first begins [] (b ∷ bs) none some = refl
nothing_first begins (b ∷ bs) other none some = absurd (omega (arith, none))

pub returns-in-len1-up-rest_beside-2 : goal.returns-in-len1-up-rest_beside-2
returns-in-len1-up-rest_beside-2 c =
    sym (nothing_first (c.loop-rest.before == 45) c.loop-rest.rest.now c.loop-rest.rest_beside.now c.in_default.len_below c.in-len1-up-rest_beside-2.len_at_least) ∙ c.loop-rest.invariant

pub loop-rest-init : goal.loop-rest-init
loop-rest-init c =
    let n = c.same_front-same.result in
    let name = c.args.name.now in
    let before = c.if-same-gt0.before in
    let is : (n ≡ 0 → before ≡ 45) × (0 < n → before ≡ get_or name (n - 1) 0) =
    elim c.if-same-gt0.branch [
      | then-same-gt0 w ↦ (λ none. absurd (omega (arith, none, w.if-same-gt0.true)), λ some. w.before-is)
      | else-same-gt0 w ↦ (λ none. w.before-is, λ some. absurd (omega (arith, some, w.if-same-gt0.false)))
    ] in
    rw (c.split_at.ensures.back, c.split_at-2.ensures.back)
    (order-rest n name c.args.other.now before c.same_front-same.ensures.within.0 c.same_front-same.ensures.same is.0 is.1)

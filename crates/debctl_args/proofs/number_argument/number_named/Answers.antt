use Rattle.std.proofs.Common.{◌≡◌, ◌∙◌, ℕ, Ok, sym, ap, rules, true, false}
use Rattle.std.specs.Fmt.{decimal}
use Rattle.std.proofs.lemmas.Slice.Eq.{bytes_eq-Decides}
use Rattle.debctl_args.proofs.Numbers.{is_none, is_number}
use Rattle.debctl_args.proofs.number_argument.number_named.Goals as goal

pub returns-in-Ok : goal.returns-in-Ok
returns-in-Ok c =
    let same = (bytes_eq-Decides c.format.result.now c.args.word.now).0 (sym c.eq.ensures ∙ c.if-eq.true) in
    is_number c.args.word.now c.in-Ok.number (search rules) (sym same ∙ c.format.ensures.text)

pub returns-in_default : goal.returns-in_default
returns-in_default c = is_none c.args.word.now c.parse.result c.parse.ensures.value.0 other
  where
    other : (n : ℕ) → c.parse.result ≡ Ok n → c.args.word.now ≡ decimal n → ⊥
    other n is spelled =
        let same : Ok n ≡ Ok c.in-Ok.number = sym is ∙ c.in-Ok.is in
        let number : n ≡ c.in-Ok.number = cc in
        let equal = (bytes_eq-Decides c.format.result.now c.args.word.now).1 (c.format.ensures.text ∙ ap decimal (sym number) ∙ sym spelled) in
        let bad : true ≡ false = sym equal ∙ sym c.eq.ensures ∙ c.if-eq.false in cc

pub returns-in_default-2 : goal.returns-in_default-2
returns-in_default-2 c = is_none c.args.word.now c.parse.result c.parse.ensures.value.0 other
  where
    other : (n : ℕ) → c.parse.result ≡ Ok n → c.args.word.now ≡ decimal n → ⊥
    other n is spelled = let bad = sym is ∙ c.in_default.is in cc

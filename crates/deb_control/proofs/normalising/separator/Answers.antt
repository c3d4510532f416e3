use Rattle.deb_control.proofs.Common.{◌≡◌, ℕ, zero, suc, ◌<◌, [], ◌∷◌, refl, arith, newline, gap_behind}
use Rattle.deb_control.proofs.normalising.separator.Goals as goal

some : (n : ℕ) → 0 < n → newline ∷ [] ≡ gap_behind n
some zero h = absurd (omega (arith, h))
some (suc n) h = refl

pub returns-then-before-gt0 : goal.returns-then-before-gt0
returns-then-before-gt0 c = some c.args.before c.if-before-gt0.true

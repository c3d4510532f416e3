use Rattle.deb_control.proofs.Common.{◌≡◌, ℕ, List, [], Ok, ⊤, FitsChecked, checked_state, checked_moment, ReadsOn, shown}
use Rattle.deb_control.proofs.ComparedSoFar.{HaveAgreed}
use Rattle.deb_control.proofs.comparing.agree.Given as goal

abbrev pub invariant-loop : goal.invariant-loop
invariant-loop g l = record {
  one : ReadsOn {T = ⊤} l.initial.one (shown (g.R.Source.left l.initial.first) (g.R.Source.failures l.initial.first)) (Ok tt) l.one (shown (g.R.Source.left l.first) (g.R.Source.failures l.first));
  other : ReadsOn {T = ⊤} l.initial.other (shown (g.S.Source.left l.initial.second) (g.S.Source.failures l.initial.second)) (Ok tt) l.other (shown (g.S.Source.left l.second) (g.S.Source.failures l.second));
  count : (checked_state l.one).count ≡ l.counter;
  both : (text text_too : List ℕ) → FitsChecked l.initial.one.doc text [] (checked_state l.initial.one) (g.R.Source.left l.initial.first) → FitsChecked l.initial.one.doc text_too [] (checked_state l.initial.other) (g.S.Source.left l.initial.second) → HaveAgreed l.initial.one.doc text text_too (checked_moment l.one (g.R.Source.left l.first) (g.R.Source.failures l.first)) (checked_moment l.other (g.S.Source.left l.second) (g.S.Source.failures l.second));
}

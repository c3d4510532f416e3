use Rattle.deb_control.proofs.Common.{◌≡◌, ◌++◌, drop, numbers_in}
use Rattle.deb_control.proofs.canon_text.append_numbers.Given as goal

abbrev pub invariant-loop-number : goal.invariant-loop-number
invariant-loop-number l = l.order.items ++ numbers_in (drop l.number-index l.rows) ≡ l.initial.order.items ++ numbers_in l.rows

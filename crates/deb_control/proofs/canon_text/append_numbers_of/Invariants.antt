use Rattle.deb_control.proofs.Common.{◌≡◌, ◌++◌, drop, map}
use Rattle.deb_control.proofs.canon_text.append_numbers_of.Given as goal

abbrev pub invariant-loop-key : goal.invariant-loop-key
invariant-loop-key l = l.order.items ++ map (λ key. key.number) (drop l.key-index l.keys) ≡ l.initial.order.items ++ map (λ key. key.number) l.keys

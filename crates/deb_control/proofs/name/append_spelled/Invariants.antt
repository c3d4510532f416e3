use Rattle.deb_control.proofs.Common.{◌≡◌, ◌==◌, ◌++◌, drop, capitalised, canonical_name}
use Rattle.deb_control.proofs.name.append_spelled.Given as goal

abbrev pub invariant-loop-byte : goal.invariant-loop-byte
invariant-loop-byte l = l.text.items ++ capitalised (l.before == 45) (drop l.byte-index l.name) ≡ l.initial.text.items ++ canonical_name l.name

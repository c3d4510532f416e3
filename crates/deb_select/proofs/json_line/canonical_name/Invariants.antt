use Rattle.std.proofs.Common.{◌≡◌, ◌==◌, ◌++◌, drop}
use Rattle.deb_base.specs.Names.{canonical_name, capitalised}
use Rattle.deb_select.proofs.json_line.canonical_name.Given as goal

abbrev pub invariant-loop-byte : goal.invariant-loop-byte
invariant-loop-byte l = l.text.items ++ capitalised (l.before == 45) (drop l.byte-index l.name) ≡ canonical_name l.name

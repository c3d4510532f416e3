use Rattle.std.proofs.Common.{◌*◌}
use Rattle.deb_control.proofs.Common.{◌≡◌, ◌==◌, ◌+◌, ◌-◌, ◌<◌, ◌^◌, drop, capitalised, canonical_name}
use Rattle.deb_control.specs.Sorting.{front_number}
use Rattle.deb_control.proofs.name.name_front.Given as goal

abbrev pub invariant-loop-index : goal.invariant-loop-index
invariant-loop-index l = record {
  small : l.front < 256 ^ l.index;
  rest : l.front * 256 ^ (8 - l.index) + front_number (8 - l.index) (capitalised (l.before == 45) (drop l.index l.name)) ≡ front_number 8 (canonical_name l.name);
}

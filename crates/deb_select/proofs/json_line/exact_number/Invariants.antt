use Rattle.std.proofs.Common.{◌≡◌, ◌≤◌, ◌^◌, drop}
use Rattle.deb_version.specs.Parts.{value_after, value_of}
use Rattle.deb_select.proofs.json_line.exact_number.Given as goal

abbrev pub invariant-loop-digit : goal.invariant-loop-digit
invariant-loop-digit l = (value_after l.value (drop l.digit-index l.digits) ≡ value_of l.digits) × (l.value ≤ 2 ^ 53)

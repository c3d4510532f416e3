use Rattle.std.proofs.Common.{◌≡◌, drop, false}
use Rattle.deb_rows.specs.Cells.{number_goes_on}
use Rattle.deb_rows.proofs.cell.begins_with_number.Given as goal

abbrev pub invariant-loop-byte : goal.invariant-loop-byte
invariant-loop-byte l = number_goes_on l.some (drop l.byte-index l.text) ≡ number_goes_on false l.text

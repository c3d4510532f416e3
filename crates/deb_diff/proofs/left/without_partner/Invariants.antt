use Rattle.std.proofs.Common.{◌≡◌, map, take}
use Rattle.std.specs.Option.{is_none}
use Rattle.deb_diff.proofs.left.without_partner.Given as goal

abbrev pub invariant-loop-partner : goal.invariant-loop-partner
invariant-loop-partner l = l.waits.items ≡ map is_none (take l.partner-index l.found)

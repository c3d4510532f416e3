use Rattle.deb_control.proofs.Common.{◌≡◌, take, fields_of}
use Rattle.deb_control.specs.SpelledAlike.{spelled_in}
use Rattle.deb_control.proofs.alike.are_alike.Given as goal

abbrev pub invariant-loop-index : goal.invariant-loop-index
invariant-loop-index l = take l.index (spelled_in (fields_of l.one)) ≡ take l.index (spelled_in (fields_of l.other))

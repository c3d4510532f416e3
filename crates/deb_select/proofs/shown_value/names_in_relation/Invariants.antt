use Rattle.std.proofs.Common.{◌≡◌, map, take}
use Rattle.deb_relation.specs.Groups.{group_of}
use Rattle.deb_select.specs.Conditions.{names_asked}
use Rattle.deb_select.proofs.shown_value.names_in_relation.Given as goal

abbrev pub invariant-loop-group : goal.invariant-loop-group
invariant-loop-group l = map (λ name. name.now) l.names.items ≡ names_asked (map group_of (take l.group-index l.group-items))

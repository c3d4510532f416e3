use Rattle.std.proofs.Common.{◌≡◌, ◌++◌, map, take}
use Rattle.std.specs.List.{flat_map}
use Rattle.deb_select.specs.JsonTokens.{group_tokens}
use Rattle.deb_relation.specs.Groups.{group_of}
use Rattle.deb_select.proofs.json_relation.put_groups.Given as goal

abbrev pub invariant-loop-group : goal.invariant-loop-group
invariant-loop-group l = (l.out.tokens ≡ l.initial.out.tokens ++ flat_map group_tokens (map group_of (take l.group-index l.groups))) × (l.out.before ≡ l.initial.out.before)

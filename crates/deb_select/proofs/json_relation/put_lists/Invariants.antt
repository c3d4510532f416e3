use Rattle.std.proofs.Common.{◌≡◌, ◌++◌, map, take}
use Rattle.std.specs.List.{flat_map}
use Rattle.deb_select.specs.JsonTokens.{list_tokens}
use Rattle.deb_relation.specs.Views.{restrictions_of}
use Rattle.deb_select.proofs.json_relation.put_lists.Given as goal

abbrev pub invariant-loop-list : goal.invariant-loop-list
invariant-loop-list l = (l.out.tokens ≡ l.initial.out.tokens ++ flat_map list_tokens (map restrictions_of (take l.list-index l.lists))) × (l.out.before ≡ l.initial.out.before)

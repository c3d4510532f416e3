use Rattle.std.proofs.Common.{◌≡◌, ◌++◌, map, take}
use Rattle.std.specs.List.{flat_map}
use Rattle.deb_select.specs.JsonTokens.{alternative_tokens}
use Rattle.deb_relation.specs.Views.{alternative_of}
use Rattle.deb_select.proofs.json_relation.put_alternatives.Given as goal

abbrev pub invariant-loop-alternative : goal.invariant-loop-alternative
invariant-loop-alternative l = (l.out.tokens ≡ l.initial.out.tokens ++ flat_map alternative_tokens (map alternative_of (take l.alternative-index l.alternatives))) × (l.out.before ≡ l.initial.out.before)

use Rattle.std.proofs.Common.{◌≡◌, ◌++◌, map, take}
use Rattle.deb_relation.specs.Views.{alternative_of}
use Rattle.deb_select.proofs.shown_value.push_names.Given as goal

abbrev pub invariant-loop-alternative : goal.invariant-loop-alternative
invariant-loop-alternative l = map (λ name. name.now) l.names.items ≡ map (λ name. name.now) l.initial.names.items ++ map (λ alternative. alternative.name) (map alternative_of (take l.alternative-index l.alternative-items))

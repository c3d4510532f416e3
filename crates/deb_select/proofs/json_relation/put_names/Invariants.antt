use Rattle.std.proofs.Common.{◌≡◌, ◌++◌, map, take}
use Rattle.std.specs.List.{flat_map}
use Rattle.deb_select.specs.JsonTokens.{text_tokens}
use Rattle.deb_relation.specs.Texts.{signed_text}
use Rattle.deb_select.proofs.json_relation.put_names.Given as goal

abbrev pub invariant-loop-name : goal.invariant-loop-name
invariant-loop-name l = (l.out.tokens ≡ l.initial.out.tokens ++ flat_map text_tokens (map (λ name. signed_text l.negated name.now) (take l.name-index l.names))) × (l.out.before ≡ l.initial.out.before)

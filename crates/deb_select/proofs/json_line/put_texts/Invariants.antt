use Rattle.std.proofs.Common.{◌≡◌, ◌++◌, map, take}
use Rattle.std.specs.List.{flat_map}
use Rattle.deb_select.specs.JsonTokens.{text_tokens}
use Rattle.deb_select.proofs.json_line.put_texts.Given as goal

abbrev pub invariant-loop-text : goal.invariant-loop-text
invariant-loop-text l = (l.out.tokens ≡ l.initial.out.tokens ++ flat_map text_tokens (map (λ text. text.now) (take l.text-index l.texts))) × (l.out.before ≡ l.initial.out.before)

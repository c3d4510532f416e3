use Rattle.std.proofs.Common.{◌≡◌, ◌++◌, map, take}
use Rattle.std.specs.List.{flat_map}
use Rattle.deb_select.specs.JsonTokens.{entry_tokens}
use Rattle.deb_control.specs.CheckedStates.{passing_judged}
use Rattle.deb_control.specs.Paragraphs.{value_in}
use Rattle.deb_select.proofs.json_line.put_fields.Given as goal

abbrev pub invariant-loop-field : goal.invariant-loop-field
invariant-loop-field l = (l.out.tokens ≡ l.initial.out.tokens ++ flat_map (entry_tokens (passing_judged l.paragraph).seen.fields) (map value_in (take l.field-index l.fields))) × (l.out.before ≡ l.initial.out.before)

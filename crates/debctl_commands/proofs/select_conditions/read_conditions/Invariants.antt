use Rattle.std.proofs.Common.{◌≡◌, map, take, string_bytes}
use Rattle.debctl_commands.specs.SelectConditions.{HasTexts, is_negated}
use Rattle.debctl_commands.proofs.select_conditions.read_conditions.Given as goal

abbrev pub invariant-loop-text : goal.invariant-loop-text
invariant-loop-text l = record {
  has : HasTexts l.doc (is_negated l.fn.picks) (map string_bytes (take l.text-index l.texts)) l.selection;
  number : l.number ≡ l.text-index;
}

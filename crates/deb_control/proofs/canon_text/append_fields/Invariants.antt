use Rattle.deb_control.proofs.Common.{◌≡◌, ◌++◌, drop, flat_map, AllByRecursion, fields_of, rules_of, IsGood, picked, text_under}
use Rattle.deb_control.proofs.canon_text.append_fields.Given as goal

abbrev pub invariant-loop-number : goal.invariant-loop-number
invariant-loop-number l = record {
  text : l.text.items ++ flat_map (text_under (rules_of l.doc)) (picked (fields_of l.paragraph) (drop l.number-index l.order)) ≡ l.initial.text.items ++ flat_map (text_under (rules_of l.doc)) (picked (fields_of l.paragraph) l.order);
  good : AllByRecursion (IsGood (rules_of l.doc)) (picked (fields_of l.paragraph) (drop l.number-index l.order)) → AllByRecursion (IsGood (rules_of l.doc)) (picked (fields_of l.paragraph) l.order);
}

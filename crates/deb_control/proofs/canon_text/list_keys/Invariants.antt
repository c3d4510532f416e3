use Rattle.deb_control.proofs.Common.{◌≡◌, ◌<◌, length, take, map, get_or, AllByRecursion, fields_of, IsKeyIn, no_field}
use Rattle.deb_control.proofs.canon_text.list_keys.Given as goal

abbrev pub invariant-loop-number : goal.invariant-loop-number
invariant-loop-number l = record {
  fronts : AllByRecursion (IsKeyIn (fields_of l.paragraph)) l.keys.items;
  within : AllByRecursion (λ key. key.number < length (fields_of l.paragraph)) l.keys.items;
  first : map (λ key. get_or (fields_of l.paragraph) key.number no_field) l.keys.items ≡ take l.number (fields_of l.paragraph);
}

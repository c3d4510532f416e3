use Rattle.deb_control.proofs.Common.{◌≡◌, ◌++◌, drop, map, AllByRecursion, fields_of, field_in, IsTypedField, picked}
use Rattle.deb_control.proofs.paragraph.fields_in_order.Given as goal

abbrev pub invariant-loop-number : goal.invariant-loop-number
invariant-loop-number l = record {
  read : map field_in l.fields.items ++ picked (fields_of l.paragraph) (drop l.number-index l.order) ≡ picked (fields_of l.paragraph) l.order;
  good : AllByRecursion (IsTypedField l.doc) l.fields.items;
}

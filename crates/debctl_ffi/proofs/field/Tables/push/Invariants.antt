use Rattle.std.proofs.Common.{◌≡◌, ◌++◌, List, map}
use Rattle.deb_syntax.specs.Raw.{field_of, fields_left}
use Rattle.debctl_ffi.specs.Fields.{Numbered, numbered}
use Rattle.debctl_ffi.specs.Tables.{HasTables}
use Rattle.debctl_ffi.proofs.field.Tables.push.Given as goal

abbrev pub invariant-loop-field : goal.invariant-loop-field
invariant-loop-field l = record {
  tables : (shown : List Numbered) → HasTables l.initial.self shown → HasTables l.self (shown ++ numbered l.number (map field_of l.yielded));
  left : map field_of l.yielded ++ fields_left l.field-iterator ≡ fields_left l.initial.field-iterator;
}

use Rattle.std.proofs.Common.{◌≡◌, ◌++◌, map, take}
use Rattle.deb_control.specs.CheckedStates.{doc_judged, passing_judged}
use Rattle.deb_control.specs.Paragraphs.{AreValuesOf}
use Rattle.deb_control.specs.ValueFiles.{ValueEntries}
use Rattle.deb_field.specs.Values.{ValueMeaning}
use Rattle.deb_select.specs.Tables.{has_fields, more_cells}
use Rattle.deb_select.proofs.cells.push_more.Given as goal

abbrev pub invariant-loop-name : goal.invariant-loop-name
invariant-loop-name l = record {
  cells : (values : ValueEntries ValueMeaning) → AreValuesOf (doc_judged l.paragraph) (passing_judged l.paragraph).seen values → l.out.items ≡ l.initial.out.items ++ more_cells (map (λ name. name.items) (take l.name-index l.names)) values;
  full : (values : ValueEntries ValueMeaning) → AreValuesOf (doc_judged l.paragraph) (passing_judged l.paragraph).seen values → l.full ≡ has_fields (map (λ name. name.items) (take l.name-index l.names)) values;
}
